-- What a search shows that has nothing left to do. Read in this order: the constructors of a term's sort (Choices); what it begins with and what holds at
-- its end (Finished); the state that it shows (Shown).
pub mod Choices
pub mod Finished
pub mod Shown
