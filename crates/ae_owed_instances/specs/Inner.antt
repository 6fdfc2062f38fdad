-- Instances whose numbers fall, what instances say, and what a pass over the owners finds.
pub mod Falling
pub mod Saying
pub mod Passing
