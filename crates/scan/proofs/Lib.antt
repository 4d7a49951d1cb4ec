pub mod Scan
pub mod FirstLine
pub mod Lines
pub mod EveryLine
