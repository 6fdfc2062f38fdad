-- A search between two rounds. Read in this order: what it holds beside the solver (Held); what its formulas, names and lines keep of the problem's
-- (Fine); what stands between two rounds (Between); when nothing is left to do, and what is shown then (Finished).
pub mod Rewriting
pub mod Held
pub mod Fine
pub mod Between
pub mod Finished
pub mod Owed
pub mod Passing
