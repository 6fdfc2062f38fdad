-- What is computed on the way to an answer.
pub mod Denials
pub mod Keyed
pub mod Rounding
pub mod Rules
pub mod Sums
