pub mod Settings
pub mod Lawful
pub mod Alive
pub mod Searching
pub mod Firing
pub mod Open
pub mod Instances
pub mod Combinations
mod Results
