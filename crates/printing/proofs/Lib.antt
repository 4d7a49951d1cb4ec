pub mod Shares
pub mod Ceilings
