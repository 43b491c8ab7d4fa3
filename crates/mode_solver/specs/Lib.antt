pub mod Graph
pub mod Reaching
pub mod Searching
pub mod Forms
pub mod Solving
