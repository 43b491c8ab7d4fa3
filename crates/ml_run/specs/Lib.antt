pub mod Stack
pub mod Whole
