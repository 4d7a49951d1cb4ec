pub mod Selection
pub mod Questions
pub mod Code
