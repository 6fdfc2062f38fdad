-- What names that are new ask for in a search: the contract speaks of ae_between_rounds' words. Inner holds nothing to be believed.
pub mod Inner
