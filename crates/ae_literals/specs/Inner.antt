-- What the parts find, and how far they have come.
pub mod Parts
pub mod Seen
