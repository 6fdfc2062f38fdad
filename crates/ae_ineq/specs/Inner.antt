-- What only the functions of this crate speak of: lists of rows as sets of forms, and values of names.
pub mod Sets
pub mod Points
pub mod Derived
pub mod Primitive
pub mod Steps
