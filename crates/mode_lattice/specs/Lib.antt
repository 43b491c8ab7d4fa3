pub mod Clauses
pub mod Lattices
pub mod Ranked
pub mod Modes
pub mod ModeLattice
