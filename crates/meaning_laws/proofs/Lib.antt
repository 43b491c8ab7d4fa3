mod Layers
pub mod Binding
pub mod Printing
