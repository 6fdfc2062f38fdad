mod Entries
mod Facts
mod Symbols
mod Rules
mod Pairs
mod Completed
mod Others
mod Lawful
mod Equated
mod Decide
mod Tests
mod Overlaps
pub mod WholeValues
mod TwoEquations
pub mod SaturatedTests
mod Numbered
mod States
mod OneEquation
mod Quantified
