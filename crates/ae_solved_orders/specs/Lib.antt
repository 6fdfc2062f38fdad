-- The inequalities of a search. Read: what a round of them leaves as it was (Same). Passed passes on what lower libraries say.
pub mod Same
pub mod Passed
