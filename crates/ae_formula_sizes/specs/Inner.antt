-- What the functions of this crate count. A reader need not believe any of it.
pub mod Counted
