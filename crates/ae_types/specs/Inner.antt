-- The graph in which sorts are joined, and the walk through it. A reader need not believe any of it: the public contracts speak of
-- substitutions and clashes alone.
pub mod Graphs
pub mod Orders
pub mod Joins
pub mod Levels
pub mod Walks
pub mod Enters
