mod Putting
mod Bounds
pub mod Steps
