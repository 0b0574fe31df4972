pub mod LogCalls
pub mod LogCallsLaws
