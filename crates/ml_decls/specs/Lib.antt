pub mod Lists
pub mod Offences
pub mod Verdicts
pub mod Said
pub mod Tables
pub mod Predefined
pub mod Answers
