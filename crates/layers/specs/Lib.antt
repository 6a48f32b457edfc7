pub mod Layers
pub mod Rows
pub mod Whole
