pub mod Limit
pub mod Reached
pub mod Greatest
