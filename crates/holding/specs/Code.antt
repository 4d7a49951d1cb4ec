pub mod Holding
pub mod Search
