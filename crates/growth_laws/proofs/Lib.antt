pub mod ColumnLaws
pub mod EmptyTable
pub mod GrownLaws
pub mod GrowthFrameLaws
pub mod GrowthKeepsRules
