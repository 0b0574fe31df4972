pub mod Level
pub mod NewLevelLaws
pub mod PlannedRow
pub mod PlannedRowLaws
pub mod Plan
pub mod PlanLaws
