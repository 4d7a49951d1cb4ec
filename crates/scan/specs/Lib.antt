pub mod Line
pub mod Scan
pub mod Positions
