pub mod Family
pub mod Ceilings
pub mod Sharp
pub mod Full
pub mod KeptPairs
