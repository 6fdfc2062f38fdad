-- How many quantifiers are left to open.
pub mod Counts
