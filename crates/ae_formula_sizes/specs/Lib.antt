-- Inner holds nothing to be believed: the limits are those of the journal.
pub mod Inner
