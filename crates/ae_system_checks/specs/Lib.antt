-- Completed systems as examples. Tests has what it is for a property to be testable;
-- Whole has what a value of sort `int` has to meet. Examples has the systems, Laws the statements: systems that are completed, and one for each clause that this clause alone refuses.
pub mod Tests
pub mod Whole
pub mod Examples
pub mod OneEquation
pub mod TwoEquations
pub mod Quantified
pub mod Laws
