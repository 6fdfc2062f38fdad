-- Making instances: the contract speaks of the words of the crates below alone. Inner holds nothing to be believed.
pub mod Inner
