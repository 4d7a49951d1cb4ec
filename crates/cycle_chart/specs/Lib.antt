pub mod CycleChart
