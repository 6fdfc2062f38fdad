-- The search for a goal, in turns. Ended says what a run, and what a search comes to; Turns, that each turn counts a line or lowers a number.
pub mod Ended
pub mod Turns
