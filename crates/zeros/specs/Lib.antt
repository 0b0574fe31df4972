pub mod Zeros
pub mod Passed
pub mod WordZero
pub mod ZeroLaws
pub mod PassedLaws
