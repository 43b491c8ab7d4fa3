pub mod Counts
pub mod Depths
pub mod Operators
pub mod Spans
