-- Blocks that are opened, and what their clauses bring: when one comes in (Coming).
pub mod Coming
