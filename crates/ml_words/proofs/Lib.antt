pub mod Lookups
pub mod Numbers
pub mod Quotients
pub mod Texts
