pub mod Limits
pub mod Number
pub mod Questions
pub mod FirstNo
pub mod Code
