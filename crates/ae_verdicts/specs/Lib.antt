-- Verdicts: what is said of the part that an output gives for a goal, and the line that says it. To be read after ae_check's Verdicts and ae_trim's
-- Axioms.
pub mod Verdicts
