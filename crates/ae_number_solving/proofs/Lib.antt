mod Resting
mod SumWidths
mod Scalings
pub mod OwnNumbers
mod Joining
mod Puts
mod SolvedLines
mod Constants
pub mod KeptConflicts
mod AlikeNumbers
mod Ends
mod Equating
