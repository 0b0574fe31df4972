pub mod CompressedExact
pub mod ForkExact
pub mod StoredExact
