pub mod Bounds
pub mod CompressedStep
pub mod Nesting
pub mod Numbered
pub mod SoundRows
pub mod TreeEntry
