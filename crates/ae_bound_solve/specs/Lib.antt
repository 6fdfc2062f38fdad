-- Kept rows in one call: what gives the assumed rows, and what is asked of the names in rows of sort `int` (Given); their widths, and what is noted for them
-- (Widths). Inner holds nothing to be believed.
pub mod Given
pub mod Widths
pub mod Inner
