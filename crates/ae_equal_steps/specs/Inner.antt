-- Parts says what a pattern is of; Pairs, when the values of two names are the same, by what they are made of.
pub mod Parts
pub mod Pairs
