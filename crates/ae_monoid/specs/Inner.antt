-- How the rules are found by names, and how long a reduction may be.
pub mod Chains
pub mod Indexes
pub mod Bounds
