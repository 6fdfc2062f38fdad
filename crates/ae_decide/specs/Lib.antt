-- Clauses has the nine clauses of a completed system one by one. The other files have tests of them as functions; what the public functions
-- answer is said in the words of the clauses themselves.
pub mod Clauses
pub mod Inner
pub mod Names
pub mod Reduction
pub mod Values
pub mod Records
pub mod Leaves
pub mod Rules
pub mod Overlaps
pub mod Congruence
