pub mod Shapes
pub mod Cursor
