pub mod Parts
pub mod Table
pub mod Taken
pub mod Used
