pub mod Stores
pub mod Shapes
pub mod Contexts
pub mod Copies
pub mod Slots
pub mod Spelling
