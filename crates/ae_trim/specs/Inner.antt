-- What the crate's own functions and proofs need.
pub mod Marks
