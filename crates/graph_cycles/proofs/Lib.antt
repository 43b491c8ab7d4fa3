pub mod Lists
pub mod Paths
pub mod Grouped
pub mod Certificates
pub mod Walks
