pub mod Folds
pub mod Picks
pub mod Slides
pub mod Smalls
