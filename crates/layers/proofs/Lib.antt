pub mod Queueing
pub mod Storing
