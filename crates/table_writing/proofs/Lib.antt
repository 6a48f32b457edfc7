pub mod Backs
pub mod Heads
pub mod Joins
pub mod Writes
