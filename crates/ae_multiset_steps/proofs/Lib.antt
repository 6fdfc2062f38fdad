pub mod Fronts
pub mod Resting
mod Allowances
pub mod Lists
mod Extending
mod Places
mod Together
