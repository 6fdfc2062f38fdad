-- A block of inequalities of a trail that can't hold together (Found). Inner holds nothing to be believed.
pub mod Found
pub mod Inner
