pub mod Lists
pub mod Graphs
pub mod Reaches
pub mod Walks
pub mod Searches
pub mod Tables
pub mod Turns
pub mod Conversions
