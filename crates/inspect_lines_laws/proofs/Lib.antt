pub mod Bounded
pub mod LinesLaws
