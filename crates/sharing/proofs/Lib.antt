pub mod Filled
pub mod Named
pub mod Numbered
pub mod Second
