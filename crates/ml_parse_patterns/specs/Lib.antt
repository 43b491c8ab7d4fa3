pub mod Looks
pub mod Patterns
pub mod Readings
