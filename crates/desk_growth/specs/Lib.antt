pub mod GrowthCalls
pub mod GrowthCallsLaws
