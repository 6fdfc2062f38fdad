pub mod Additions
pub mod Rests
