-- Names for the terms that a search begins with.
pub mod Named
