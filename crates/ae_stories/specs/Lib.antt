-- The story of a search that was stopped.
pub mod Told
