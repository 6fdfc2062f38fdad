-- Rows kept for the inequality literals of a journal. Read: the row of a literal, and the rows of a list of literals (Kept); when these agree with the journal, and what a point says of
-- the literals (Laws).
pub mod Kept
pub mod Laws
