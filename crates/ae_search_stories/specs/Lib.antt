-- Searches that were stopped.
pub mod Stopped
