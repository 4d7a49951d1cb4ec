pub mod Tasks
pub mod Partition
pub mod Blocking
pub mod Code
