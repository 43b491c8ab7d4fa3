mod Typings
mod Faults
mod Renamed
mod Alike
pub mod Programs
pub mod Comparisons
mod Unique
