-- What clauses bring: names and generations for what stands in them, and for what is said of the blocks among them that were opened (Brought).
-- Inner holds nothing to be believed.
pub mod Brought
pub mod Inner
