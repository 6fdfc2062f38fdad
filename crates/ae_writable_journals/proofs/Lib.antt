mod Leaves
mod NameSorts
mod Sides
mod Values
mod Fit
pub mod Names
mod Generations
pub mod Lines
pub mod Stories
