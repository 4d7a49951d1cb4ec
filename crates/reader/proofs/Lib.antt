pub mod Arrays
pub mod Stands
pub mod Spans
pub mod Reading
pub mod Turns
pub mod Marking
pub mod Handed
pub mod Fine
