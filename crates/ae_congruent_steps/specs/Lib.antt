-- Congruent says when two names apply one head to names that steps equate.
pub mod Congruent
