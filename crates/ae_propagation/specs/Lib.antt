-- Unit propagation. To be read in this order: trails to which unit clauses add nothing, unit propagation from a place of the trail on, with
-- what it may cost, and a trail with its clauses. `Inner` holds nothing to be believed.
pub mod Settled
pub mod Watched
pub mod Contents
pub mod Inner
