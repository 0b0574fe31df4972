pub mod Columns
pub mod Levels
pub mod Marks
pub mod LinesBy
