-- What the crate's own functions and proofs need.
pub mod Emitting
pub mod Pending
