-- Marked: marks of what no line was noted for.
pub mod Marked
