-- Types of the signature.
pub mod Counts
