pub mod Written
pub mod Breaks
pub mod Laws
pub mod Checks
