-- Ordered says what is asked of the orders of a trail.
pub mod Ordered
