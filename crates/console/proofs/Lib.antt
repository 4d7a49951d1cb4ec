pub mod Fits
pub mod Prints
