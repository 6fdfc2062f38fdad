-- What the contracts of the checker say beside the calculus of ae_rules, which is to be read first. Then, in this order:
--   Reached   which lines are reached, and the first product or sum that leaves the limits
-- Nothing in Inner has to be believed: it says in other words what the private functions compute, and the public ones don't speak of it.
pub mod Reached
pub mod Inner
