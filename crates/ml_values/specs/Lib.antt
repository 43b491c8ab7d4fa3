pub mod Givings
pub mod Shown
pub mod Telling
