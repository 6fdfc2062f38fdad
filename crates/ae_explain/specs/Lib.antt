-- What is learnt from a clause that is false. To be read in this order: trails of true literals and what makes one lawful, the numbers of
-- formulas (Assignments), the first literals up to a level (Fronts), the levels of literals, and which clauses follow through hints by unit propagation. `Inner` holds nothing to be believed.
pub mod Trail
pub mod Assignments
pub mod Fronts
pub mod Levels
pub mod Hints
pub mod Inner
