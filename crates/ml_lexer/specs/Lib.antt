pub mod Answers
pub mod Bounds
pub mod Bytes
pub mod Literals
pub mod Numbers
pub mod Tokens
pub mod Words
