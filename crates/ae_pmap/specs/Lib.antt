-- Read in this order: Pairs (finite maps as lists), Trees (balanced trees and their pairs), Nodes (the trees that stand in one list),
-- Forest (maps that stand side by side, and that each version lasts), Walk (what is left of a walk). Inner is the code's own.
pub mod Pairs
pub mod Trees
pub mod Nodes
pub mod Forest
pub mod Walk
pub mod Inner
