pub mod Weigh
pub mod Columns
pub mod ByColumn
pub mod Rows
