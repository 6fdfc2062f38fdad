-- Rows with their derivations. Read: what a derivation of a row is (Rows); what contracts see of the rows, and when they are right over a store (Held); the rows
-- of a tight sum (Tight). Inner holds nothing to be believed.
pub mod Rows
pub mod Points
pub mod Held
pub mod Tight
pub mod Inner
