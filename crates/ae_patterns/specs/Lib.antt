-- Patterns says what the value of a name is made of; Inner counts the fields of a type.
pub mod Patterns
pub mod Inner
