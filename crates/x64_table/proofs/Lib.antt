pub mod Bytewise
pub mod Divide
pub mod Fetch
pub mod Follow
pub mod Formats
pub mod Lookup
pub mod Rows
pub mod Runs
