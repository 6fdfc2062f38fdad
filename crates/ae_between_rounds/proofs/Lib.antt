pub mod Growing
pub mod Passing
