pub mod Agreement
pub mod Encoding
pub mod Kernel
pub mod Machine
pub mod Numbers
pub mod View
