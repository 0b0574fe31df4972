pub mod TreeGrowthCalls
pub mod TreeGrowthCallsLaws
