pub mod Index
pub mod Fields
pub mod Locals
