pub mod Column
pub mod ColumnLaws
pub mod Tree
pub mod TreeLaws
pub mod RoundTrip
