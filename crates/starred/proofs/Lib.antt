pub mod FacesLog
pub mod OpeningsLog
pub mod StarredCases
pub mod WorkedLog
