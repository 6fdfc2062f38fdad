-- Alike says what names that are the same have in common with the terms of a system, and with the equations of a journal.
pub mod Alike
