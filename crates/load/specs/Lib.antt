pub mod Load
pub mod Weigh
pub mod Code
