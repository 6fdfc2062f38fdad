-- The difference of the values of an inequality's sides. Read: the width of a difference (Widths), and when a journal licenses it (Laws). Inner holds nothing to be believed.
pub mod Widths
pub mod Laws
pub mod Inner
