-- Rows that are kept. Read: when kept rows are right for a trail, and for a setting of the journal (Kept). Inner holds nothing to be believed.
pub mod Kept
pub mod Inner
