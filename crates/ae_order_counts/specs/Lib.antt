-- How many orders of two terms are open: the comparisons of the clauses (Counts), and the trails of which it is told (Trails).
pub mod Counts
pub mod Trails
