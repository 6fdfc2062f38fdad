-- What a call adds to the steps, and when a step states a value.
pub mod Stating
