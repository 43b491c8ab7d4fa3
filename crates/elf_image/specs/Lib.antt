pub mod Fields
pub mod Layout
pub mod Load
pub mod Loadable
