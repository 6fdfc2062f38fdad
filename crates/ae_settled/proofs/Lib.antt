pub mod Sorts
pub mod Nodes
mod Written
pub mod Terms
pub mod Leaves
mod Computing
mod Records
mod Alike
mod Congruences
mod Entries
mod Sides
mod Reduced
mod Overlaps
mod Joined
mod Enumerated
mod Satisfied
