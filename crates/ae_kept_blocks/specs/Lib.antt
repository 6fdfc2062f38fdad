-- What is kept of blocks and of their constants.
pub mod Kept
