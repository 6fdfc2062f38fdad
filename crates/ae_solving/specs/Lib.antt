-- What the contracts of inner functions say.
pub mod Inner
