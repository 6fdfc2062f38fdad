-- The search for a goal, over any theory: what it starts with (Started), and what it ends with (Ended).
pub mod Started
pub mod Ended
