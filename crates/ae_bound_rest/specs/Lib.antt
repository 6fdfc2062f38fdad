-- The combinations that are left after kept rows were closed. Read: the rows that count, and the lines that are noted (Rest); what the journal is after it,
-- and when the widths of the making of a point are licensed (Laws). Inner holds nothing to be believed.
pub mod Rest
pub mod Laws
pub mod Inner
