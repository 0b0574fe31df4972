pub mod RaiseExact
pub mod AttachExact
pub mod CheckWalkExact
pub mod Site
