-- Read Parts first: which parts have a text, and what it is. Codes says the same as a grammar, of which `ReadsWhole` (ae_choices) says what is read; Reading follows the
-- grammar byte by byte.
pub mod Codes
pub mod Parts
pub mod Reading
