pub mod Conjunctions
pub mod Tables
