-- The laws of the integers, and that the operations on pairs respect when two of them are one fraction.
pub mod Integers
pub mod Respected
