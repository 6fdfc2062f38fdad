pub mod Inner
pub mod Sorts
pub mod Terms
