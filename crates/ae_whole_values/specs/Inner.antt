-- Values that no integer has.
pub mod Multiples
