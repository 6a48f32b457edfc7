pub mod Pushing
pub mod Values
