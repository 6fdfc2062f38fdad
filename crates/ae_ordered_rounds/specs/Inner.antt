-- What the functions of this crate do. A reader need not believe any of it.
pub mod Meeting
pub mod Orderable
pub mod Solving
