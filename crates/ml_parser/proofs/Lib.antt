mod Bracketed
mod ItemReadings
mod Operands
mod Ranks
mod Sequences
