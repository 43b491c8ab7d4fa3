-- How the spans of a tree nest.
pub mod BareEdges
pub mod BareTypes
pub mod Behind
pub mod DeclFits
pub mod EdgeForms
pub mod Fits
pub mod Leaves
pub mod Order
pub mod PartFits
pub mod PartsBehind
pub mod PatternFits
pub mod PatternForms
pub mod PatternsBehind
pub mod Placed
pub mod Roots
pub mod TypeFits
pub mod TypesBehind
