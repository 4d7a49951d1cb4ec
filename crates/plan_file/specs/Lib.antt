pub mod Above
pub mod Reading
pub mod Stretches
pub mod Numbers
pub mod Statement
pub mod PartLines
pub mod Code
