pub mod Parts
pub mod Plan
pub mod Answers
pub mod Choice
pub mod Code
