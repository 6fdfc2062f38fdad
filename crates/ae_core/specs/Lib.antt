-- The language of problems and proofs. To be read in this order: what is put for variables, which sorts, terms and formulas are well
-- sorted, which constants occur, what a lawful problem is, and in which order terms and formulas stand. `Decided` says that sorts, terms
-- and formulas can be told apart; `Inner` holds nothing to be believed.
pub mod Putting
pub mod Sorts
pub mod Constants
pub mod Signatures
pub mod Orders
pub mod Decided
pub mod Inner
