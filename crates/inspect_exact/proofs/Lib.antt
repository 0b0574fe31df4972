pub mod Exact
pub mod InspectionExact
