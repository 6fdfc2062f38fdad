-- Exact says which names are the same.
pub mod Exact
