pub mod Files
pub mod LineColumn
pub mod Memory
pub mod MemorySink
pub mod Outside
pub mod Rules
