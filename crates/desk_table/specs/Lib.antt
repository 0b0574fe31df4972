pub mod TableCalls
pub mod TableCallsLaws
