pub mod Filled
mod Folded
