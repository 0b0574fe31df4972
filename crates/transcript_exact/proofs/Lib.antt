pub mod Exact
pub mod LevelLaws
pub mod Logged
pub mod ReadingLaws
pub mod ReplyLaws
