-- Joins has a test of the ninth clause of a completed system as a function, and Groups the nine clauses in three groups. What the public
-- functions answer is said in the words of the clauses and of completed systems themselves.
pub mod Joins
pub mod Groups
