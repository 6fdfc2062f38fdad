pub mod Simple
pub mod Blocks
