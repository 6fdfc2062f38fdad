-- Rows of inequality literals between names. Read: a literal between two names, and lines that say a value (Sides). Inner holds nothing to be believed.
pub mod Sides
pub mod Inner
