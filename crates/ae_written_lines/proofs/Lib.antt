pub mod Filtered
pub mod Fine
pub mod Derived
