pub mod CompressedExact
pub mod ForkExact
