pub mod Passing
pub mod SettingsAgree
pub mod Iteration
pub mod Enough
pub mod Narrow
pub mod ByPlace
pub mod Below
pub mod Asked
