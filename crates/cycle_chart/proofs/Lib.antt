pub mod Sentences
pub mod Operation
pub mod CycleChart
