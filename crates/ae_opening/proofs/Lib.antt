pub mod Asked
pub mod Opened
