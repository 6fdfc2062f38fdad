-- Rows over integers, rounded as ae_journal's `IsRounded` says. Read: rows that can't be rounded within the limits (Outside), what rounded rows are
-- in a journal and as derived lines (Laws).
pub mod Outside
pub mod Laws
