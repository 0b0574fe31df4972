pub mod CapacityLaws
pub mod LevelLaws
pub mod Rules
pub mod StateLaws
