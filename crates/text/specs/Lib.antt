pub mod Bytes
pub mod Decimal
