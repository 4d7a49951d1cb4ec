pub mod Supply
pub mod Envelope
