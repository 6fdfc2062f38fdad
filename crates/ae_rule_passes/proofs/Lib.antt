pub mod Chains
pub mod Reasons
