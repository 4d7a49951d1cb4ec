pub mod Under
pub mod Jump
pub mod Meeting
