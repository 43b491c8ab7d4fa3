pub mod Closings
pub mod Leaves
pub mod ListLooks
pub mod Targets
