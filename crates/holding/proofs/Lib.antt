pub mod Holding
pub mod SettingsAgree
pub mod Falling
pub mod Shorter
pub mod Iteration
pub mod Within
pub mod Searching
