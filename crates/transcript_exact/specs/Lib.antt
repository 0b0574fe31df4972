pub mod Exact
pub mod Level
pub mod Listing
pub mod Logged
