-- A search between two runs of the solver. Read in this order: for which settings of its journal it speaks (Told), what it keeps for each of them
-- (Searching), and what may come next (Steps). Inner holds nothing to be believed.
pub mod Told
pub mod Searching
pub mod Steps
pub mod Inner
