-- Rows that are kept, and what noting their combinations makes of them and of a journal. Read in this order: rows that are rounded
-- (Rounding), which rows are new, and when no combination
-- is left (Combinations), and what rows come to (Findings). Inner holds nothing to be believed.
pub mod Rounding
pub mod Combinations
pub mod Findings
pub mod Inner
