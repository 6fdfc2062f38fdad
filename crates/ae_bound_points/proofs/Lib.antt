pub mod Weaker
pub mod Closed
pub mod Same
pub mod Staging
pub mod Points
