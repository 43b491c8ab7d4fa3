pub mod Bare
pub mod Ids
pub mod Numbered
pub mod Steps
