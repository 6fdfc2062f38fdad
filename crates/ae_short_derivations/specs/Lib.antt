-- Steps that stand for others (Shortened). Inner holds nothing to be believed.
pub mod Shortened
pub mod Inner
