pub mod Lists
pub mod Mentions
pub mod Written
pub mod Programs
