pub mod KeptRows
pub mod PlanRows
pub mod ChartRows
pub mod Handing
