pub mod Opened
pub mod F
pub mod Examples
pub mod WrongPlanners
