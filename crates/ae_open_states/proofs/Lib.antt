pub mod Choices
pub mod Trails
pub mod Formulas
pub mod Constants
pub mod Saturated
