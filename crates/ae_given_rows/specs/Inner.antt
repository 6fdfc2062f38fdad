-- What the functions of this crate need. A reader need not believe any of it.
pub mod Lines
