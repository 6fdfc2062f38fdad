mod Sequels
mod OtherRules
mod Completion
mod Keeping
mod Constants
mod Spending
pub mod FirstLiterals
mod StillComplete
mod Looking
