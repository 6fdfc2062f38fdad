pub mod SortForms
pub mod Unifiers
pub mod Variables
pub mod Unification
pub mod MetConditions
pub mod Answered
pub mod ToldSizes
