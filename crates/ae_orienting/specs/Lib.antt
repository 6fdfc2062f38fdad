-- Equations that wait, of which the two sides come down to one multiset (Meeting). Inner is what an equation is reduced to.
pub mod Meeting
pub mod Inner
