pub mod Engine
pub mod Cases
pub mod WorkedLog
pub mod OpeningsLog
pub mod FacesLog
