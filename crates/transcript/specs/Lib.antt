pub mod Bounds
pub mod Transcript
pub mod PageLaws
pub mod PlaceLaws
pub mod TranscriptLaws
pub mod WholeLaws
