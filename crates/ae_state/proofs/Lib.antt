mod Beginning
pub mod Growing
pub mod Reasons
mod Restoring
pub mod Lasting
mod Putting
pub mod Learning
mod Reading
mod AssumedLiterals
pub mod Explained
pub mod ExplainedValues
mod OwnValues
pub mod Shown
mod Learnt
pub mod Alikeness
pub mod Standing
