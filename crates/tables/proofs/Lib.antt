pub mod Aggregates
pub mod Circles
pub mod Contents
pub mod Operations
pub mod Readers
pub mod Texts
