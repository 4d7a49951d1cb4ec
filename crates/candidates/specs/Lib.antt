pub mod Candidates
pub mod Statement
pub mod Code
