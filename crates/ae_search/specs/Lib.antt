-- What the answer to a goal is worth.
pub mod Promises
