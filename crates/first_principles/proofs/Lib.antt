pub mod Windows
pub mod EarlyThenLate
pub mod Example
pub mod FirstPrinciples
