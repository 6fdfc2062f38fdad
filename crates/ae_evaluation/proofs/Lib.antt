mod Facts
pub mod Decisions
pub mod Sums
mod Linear
mod Congruence
pub mod Plainness
mod Folds
mod Joins
mod Products
mod Reductions
mod Records
mod Found
mod Sane
pub mod Names
mod Respect
mod Depth
pub mod SortFacts
mod Constructors
mod Shape
pub mod Rules
mod Main
mod Evaluates
mod Exhausted
mod PutForms
mod Substitution
mod Truths
pub mod Literals
mod PutTruth
mod GroundBlocks
mod FreshValues
mod KeptTerms
mod ClosedItems
mod GroundProofs
pub mod Exact
pub mod ExampleSystem
pub mod ExampleState
mod Constructed
