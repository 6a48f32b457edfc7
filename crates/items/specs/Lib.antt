pub mod Causes
pub mod Values
pub mod Items
pub mod Sources
