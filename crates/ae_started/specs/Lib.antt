-- What a search starts with.
pub mod Started
