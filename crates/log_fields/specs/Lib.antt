pub mod Bytes
pub mod Fault
pub mod Outcome
pub mod OutcomeLaws
pub mod Field
pub mod Body
pub mod FieldLaws
