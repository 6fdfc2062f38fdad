-- Blocks that were opened.
pub mod Served
