pub mod Naming
pub mod Ticking
