-- Values of integers: when they are whole (Wholes). Inner holds nothing to be believed.
pub mod Wholes
pub mod Inner
