pub mod Supply
pub mod Signed
pub mod Linear
pub mod Code
