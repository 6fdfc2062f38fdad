-- Which denominators values have.
pub mod Denominators
