-- What the functions of this crate do. A reader need not believe any of it.
pub mod Within
