pub mod Assignment
