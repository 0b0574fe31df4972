pub mod Buckets
pub mod JoiningsLaws
pub mod Levels
pub mod LinkFrameLaws
pub mod LinkLaws
pub mod OrderLaws
pub mod Turn
