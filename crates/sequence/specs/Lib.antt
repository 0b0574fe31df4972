pub mod Calls
pub mod Run
pub mod Agrees
pub mod Invariant
pub mod StepExact
pub mod SequenceExact
pub mod ScratchFree
