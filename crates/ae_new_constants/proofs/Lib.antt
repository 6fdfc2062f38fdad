pub mod Lists
pub mod Terms
pub mod Formulas
pub mod Put
pub mod Clauses
pub mod Lines
