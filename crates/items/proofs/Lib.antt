pub mod Inputs
pub mod Making
pub mod Taking
