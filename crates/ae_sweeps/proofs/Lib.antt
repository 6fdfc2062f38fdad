pub mod Bridges
mod RuleSides
mod RulePairs
mod JoinedNames
pub mod AlikeNames
mod Together
