-- Stepping stones of the proof, in the code's own terms.
pub mod Endings
pub mod Counting
