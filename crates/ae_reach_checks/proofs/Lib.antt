pub mod ReachedFormulas
pub mod ReachedGoals
