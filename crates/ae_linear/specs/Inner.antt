-- How the rows that have a name are found.
pub mod Occurrences
