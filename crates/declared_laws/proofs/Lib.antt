pub mod Expansions
pub mod Chains
pub mod Naming
pub mod Tables
pub mod Readings
pub mod Declared
