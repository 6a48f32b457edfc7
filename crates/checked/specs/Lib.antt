pub mod Blanks
pub mod Checking
pub mod Gathering
pub mod Judging
pub mod Planning
pub mod Views
