pub mod PatternFacts
pub mod Sorting
pub mod Rules
mod OldValues
mod NewValues
mod Constants
mod NextName
