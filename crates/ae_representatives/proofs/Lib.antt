pub mod EqualTo
pub mod Taken
pub mod MoreSteps
pub mod LineNames
