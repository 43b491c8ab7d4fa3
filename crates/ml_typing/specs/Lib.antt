pub mod Terms
pub mod Written
pub mod Rows
pub mod Steps
pub mod Typing
pub mod Refusals
pub mod Crossing
pub mod Laws
