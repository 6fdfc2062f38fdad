-- What enumerations add to what a search begins with.
pub mod Choices
pub mod Inner
