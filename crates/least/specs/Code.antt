pub mod Search
pub mod Stored
