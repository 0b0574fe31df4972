pub mod Lines
pub mod Bounded
