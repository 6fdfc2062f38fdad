pub mod Trails
pub mod Standing
mod Combined
pub mod Passed
