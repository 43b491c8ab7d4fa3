pub mod Divisions
pub mod Large
pub mod NoText
pub mod Order
pub mod Sound
pub mod Unique
