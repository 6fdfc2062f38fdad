-- What a search in rounds begins with: the contract speaks of ae_between_rounds' words. Inner holds nothing to be believed.
pub mod Inner
