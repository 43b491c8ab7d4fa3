-- The depth of a reading is that of its tree.
pub mod DepthForms
pub mod Depths
pub mod PatternDepths
pub mod ProgramDepths
