-- The clause of the order of two numbers in a search: which two terms it may come for (Ordering). Inner holds nothing to be believed.
pub mod Ordering
pub mod Inner
