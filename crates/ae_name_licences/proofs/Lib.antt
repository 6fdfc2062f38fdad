pub mod Now
pub mod Solved
pub mod Legal
pub mod Widths
