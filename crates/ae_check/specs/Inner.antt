-- What the crate's own functions and proofs need.
pub mod Coding
pub mod ConstantSets
pub mod Knowing
