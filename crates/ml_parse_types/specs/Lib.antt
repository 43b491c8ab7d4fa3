pub mod Decls
pub mod Looks
pub mod Readers
pub mod Types
