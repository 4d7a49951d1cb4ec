pub mod ToPrint
pub mod Printing
