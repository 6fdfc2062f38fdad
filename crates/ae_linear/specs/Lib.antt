-- Read in this order: Solving (what an equation between two forms comes to), Rows (the values of eliminated names), Canonical (forms with
-- these values put in). Inner is how the rows that have a name are found.
pub mod Solving
pub mod Rows
pub mod Canonical
pub mod Inner
