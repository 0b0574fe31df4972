pub mod ListLaws
pub mod PlainParentExact
pub mod AlikeExact
