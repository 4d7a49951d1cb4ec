pub mod Planning
pub mod Choosing
pub mod Weighed
pub mod Answering
