pub mod TreeCalls
pub mod TreeCallsLaws
