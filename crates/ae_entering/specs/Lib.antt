-- Firsts says when the first names of a list of terms have the values that their terms give; Laws, what follows.
pub mod Firsts
pub mod Laws
