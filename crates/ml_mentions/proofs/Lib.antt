pub mod Appends
pub mod Forms
