-- The matches of a pattern (Answers). The rest need not be believed: what is offered (Steps, Candidates), what stands for all that are the same (Classes).
pub mod Steps
pub mod Answers
pub mod Candidates
pub mod Classes
