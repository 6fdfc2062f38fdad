-- What a search for a goal begins with.
pub mod First
pub mod Inner
