pub mod Lent
pub mod Columns
pub mod Places
pub mod SizeWalkExact
pub mod EntryColumns
pub mod NumberColumns
pub mod NumberWalkExact
pub mod RenumberExact
