pub mod Counting
pub mod Fields
pub mod Inputs
pub mod Items
pub mod Numbers
pub mod Refused
pub mod Told
pub mod Whole
