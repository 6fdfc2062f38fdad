-- The rows of inequality literals. Read: a journal beside a state, and a trail that a state was told (Beside); the rows of the literals of a trail (Trails); what holds of these (Laws).
-- Inner holds nothing to be believed.
pub mod Beside
pub mod Trails
pub mod Laws
pub mod Inner
