-- Marks on the trail while a clause is learnt, and the index of the trail. A reader need not believe any of it.
pub mod Marks
pub mod Index
