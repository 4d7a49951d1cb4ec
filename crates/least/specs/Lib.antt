pub mod Round
pub mod Search
pub mod Lists
pub mod Each
pub mod Fraction
pub mod Code
