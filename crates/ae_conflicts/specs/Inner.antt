-- Derivations that are joined.
pub mod Joining
