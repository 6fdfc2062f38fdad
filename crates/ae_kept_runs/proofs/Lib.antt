pub mod Lines
mod Constants
mod Numerals
pub mod Running
pub mod Learnt
