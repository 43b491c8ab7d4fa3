pub mod Fronts
pub mod Lets
pub mod Places
pub mod Says
