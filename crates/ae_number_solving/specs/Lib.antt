-- Inner is what the functions inside promise one another.
pub mod Inner
