-- Chains of equations between constants. Read in this order: Reach (which goals are chains), Soundness (what a derivation of one is worth).
pub mod Reach
pub mod Soundness
