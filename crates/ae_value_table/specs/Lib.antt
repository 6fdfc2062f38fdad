-- Read in this order: Table (what is held, and the values of names), Alike (names of one value), Versions (versions of what is held).
pub mod Table
pub mod Alike
pub mod Versions
