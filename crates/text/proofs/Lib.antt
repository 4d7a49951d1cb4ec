pub mod Decimal
pub mod Bytes
pub mod Names
