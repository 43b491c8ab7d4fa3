pub mod Layers
pub mod Puts
pub mod Runs
pub mod Walks
