-- Rows that are kept, as rows that stand in a journal, and the lines of their combinations.
pub mod Standing
