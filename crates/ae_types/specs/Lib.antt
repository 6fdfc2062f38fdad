-- Unification of sorts. To be read in this order: what a substitution and a most general unifier are, why two sorts have none, and, in
-- Bound, that bindings are a substitution (`bound`) and which pairs they were given (`IsGiven`). `Inner` holds nothing to be believed.
pub mod Substitutions
pub mod Clashes
pub mod Bound
pub mod Inner
