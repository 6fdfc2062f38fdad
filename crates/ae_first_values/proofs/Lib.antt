pub mod Keys
pub mod Limits
mod Written
mod Inverses
