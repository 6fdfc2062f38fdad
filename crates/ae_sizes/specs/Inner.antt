pub mod Weights
pub mod Counted
pub mod Stands
