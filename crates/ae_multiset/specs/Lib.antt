-- Read in this order: Multisets (and their order), Rewriting (of multisets by rules). Ranks bounds how long a descent is; Normal is one way
-- to a normal form, which a law shows to be one; Example has three rules.
pub mod Multisets
pub mod Rewriting
pub mod Ranks
pub mod Normal
pub mod Example
