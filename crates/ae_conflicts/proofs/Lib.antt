mod Assumptions
mod Resting
mod Joins
mod SeveralSteps
mod Blocks
pub mod Contradictions
pub mod Kept
