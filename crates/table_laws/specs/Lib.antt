pub mod Contents
pub mod Lawful
pub mod Laws
pub mod Placing
pub mod Refusals
pub mod Walks
pub mod Whole
