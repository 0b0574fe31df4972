pub mod Numbered
pub mod Step
pub mod Nesting
pub mod CompressedStep
