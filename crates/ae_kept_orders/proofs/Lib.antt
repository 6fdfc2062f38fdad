pub mod Staying
pub mod Passed
