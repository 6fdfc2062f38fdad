-- Matches that are owed. Read: what is found of patterns (Found), what it is of the definition's matches (Laws).
pub mod Found
pub mod Laws
