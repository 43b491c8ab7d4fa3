pub mod Shown
mod Lists
mod Tabling
mod Faults
mod Programs
pub mod Trees
pub mod Congruent
pub mod Names
pub mod FromShapes
pub mod FromIds
pub mod StepPairs
pub mod Decided
pub mod Stable
pub mod Apart
pub mod Readings
pub mod Agreements
pub mod Lowerings
pub mod Spelled
pub mod StepRuns
pub mod Larges
pub mod Narrowing
pub mod Keeping
pub mod Behind
pub mod Comparing
pub mod Leaving
pub mod Declaring
pub mod Declarations
pub mod Starting
pub mod Uses
