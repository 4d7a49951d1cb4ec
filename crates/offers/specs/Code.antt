pub mod Gathered
pub mod Least
