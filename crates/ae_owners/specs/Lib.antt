-- Owners says what an owner is of the definition's owners (ae_journal/specs/States), and when its patterns are right. Inner holds nothing to be believed.
pub mod Owners
pub mod Inner
