pub mod Lines
pub mod LevelBounds
pub mod LevelLaws
pub mod TreeTests
pub mod PlainRoot
