pub mod Occurring
pub mod Chosen
pub mod Formulas
pub mod Derived
pub mod Conjunctive
