pub mod Budget
pub mod Code
