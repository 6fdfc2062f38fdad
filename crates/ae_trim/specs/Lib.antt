-- Trimmed proofs. To be read in this order: which lines of a proof are used (Used); the proof of the used lines (Trimmed); the axioms of a
-- proof (Axioms). Inner holds nothing to be believed.
pub mod Used
pub mod Trimmed
pub mod Axioms
pub mod Inner
