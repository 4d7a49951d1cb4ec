pub mod KeptPairs
