-- What the oldest equation that waits is reduced to.
pub mod Reduced
