pub mod Found
pub mod Layers
pub mod Walks
