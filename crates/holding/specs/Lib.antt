pub mod Holding
pub mod Code
