pub mod Reading
pub mod LoadedLemmas
pub mod Rising
pub mod Laid
pub mod Parts
pub mod Written
pub mod Memory
pub mod Writing
