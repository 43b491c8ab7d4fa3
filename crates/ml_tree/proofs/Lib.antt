pub mod Forms
pub mod Search
