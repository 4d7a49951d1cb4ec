pub mod Shares
pub mod Local
pub mod System
