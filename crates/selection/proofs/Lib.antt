pub mod Selection
pub mod Greatest
pub mod Places
pub mod Lower
pub mod Descent
pub mod Leading
pub mod Reaching
pub mod Selecting
