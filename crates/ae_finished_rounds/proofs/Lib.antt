pub mod Taken
pub mod Standing
pub mod Saturated
