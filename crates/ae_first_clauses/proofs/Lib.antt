pub mod Concluding
pub mod Begun
pub mod States
pub mod Subformulas
