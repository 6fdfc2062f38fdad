pub mod Rests
pub mod Reached
pub mod MayStands
