-- The calculus. To be read in this order: linear forms of terms; the fourteen derived lines of a block, and what follows from hypotheses;
-- clauses, the sixteen rows of connectives, and unit propagation; the clauses that put sorts and terms; the six endings, the nine lines of a
-- proof, and a derivation. Then, for the laws: values of terms and truth of formulas, combinations of equations. Matches of triggers stand
-- by themselves, as do terms built of given ones (Built).
pub mod Linear
pub mod Lines
pub mod Clauses
pub mod Defining
pub mod Instances
pub mod Derivations
pub mod Valuations
pub mod Combinations
pub mod Matches
pub mod Built
