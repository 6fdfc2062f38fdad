-- What is asked of triggers. Nothing in Inner has to be believed.
pub mod Triggers
pub mod Inner
