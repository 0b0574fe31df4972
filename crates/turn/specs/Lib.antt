pub mod Asked
pub mod Session
pub mod SessionLaws
pub mod Bounds
