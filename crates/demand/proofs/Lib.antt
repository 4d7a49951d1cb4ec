pub mod Demand
pub mod Stretch
