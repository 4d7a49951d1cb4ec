pub mod Tasks
pub mod Partition
pub mod Fine
pub mod ByColumn
pub mod ByLock
