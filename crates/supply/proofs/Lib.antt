pub mod SupplyLaws
pub mod SupplySigned
pub mod CeilingLaws
pub mod Small
pub mod Linear
