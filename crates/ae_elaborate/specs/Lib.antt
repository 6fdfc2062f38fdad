-- Read Faults: what an answer without a problem says. Nothing in Inner has to be believed.
pub mod Faults
pub mod Inner
