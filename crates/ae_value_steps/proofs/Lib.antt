pub mod Added
mod Allowances
mod Factors
mod Quotients
mod Readings
