-- What is held at first, and what going back leaves.
pub mod Empty
pub mod Back
