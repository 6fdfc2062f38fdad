-- To be read in this order: what matching sees of a store (Views); sorts for type variables (SortMatching); the bindings that a term of a trigger
-- asks for (Generating); the test of sorts and names (Testing); what is proved of both (Laws, Stable, Triggers, SortCovers).
pub mod Views
pub mod SortMatching
pub mod Generating
pub mod Testing
pub mod Laws
pub mod Stable
pub mod Triggers
pub mod SortCovers
