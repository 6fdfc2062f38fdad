pub mod Steps
pub mod Representatives
pub mod DroppedRules
pub mod Staleness
pub mod Reducible
pub mod Unsolved
pub mod Budgets
pub mod Counts
