-- The point of rows that are kept. Read Points; Inner holds nothing to be believed.
pub mod Points
pub mod Inner
