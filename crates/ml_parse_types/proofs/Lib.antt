mod DeclParts
pub mod ItemLists
pub mod ModeWords
mod Ranks
mod Relays
pub mod Shorter
mod TypeLists
mod TypeNodes
mod TypeParts
pub mod Unique
