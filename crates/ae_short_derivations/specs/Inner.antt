-- While the steps of a derivation are kept.
pub mod Keeping
