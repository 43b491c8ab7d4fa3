pub mod Bindings
pub mod Layers
pub mod Runs
pub mod Stacks
pub mod Tops
pub mod Wholes
