pub mod Kept
pub mod Candidates
pub mod Choices
