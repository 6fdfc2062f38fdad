-- How the parts of two forms are taken key by key, and all numbers divided by one.
pub mod Pairs
pub mod Reduction
