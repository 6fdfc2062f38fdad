pub mod Rows
pub mod Walking
pub mod Bounds
