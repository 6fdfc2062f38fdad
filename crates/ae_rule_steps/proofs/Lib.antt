mod Turns
pub mod Reaching
mod Overlaps
