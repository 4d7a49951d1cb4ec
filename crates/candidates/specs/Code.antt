pub mod Candidates
pub mod KeptSearch
