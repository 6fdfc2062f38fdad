-- How multisets of names descend from one another.
pub mod Descents
