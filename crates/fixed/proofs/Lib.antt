pub mod Held
pub mod Same
