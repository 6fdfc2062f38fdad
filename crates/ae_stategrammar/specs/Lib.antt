-- Read StateTexts: how rules, states, journals and widths are spelled, over the texts of terms, formulas and sorts of ae_prooftext's Texts and those of values and linear
-- forms of ae_valuetext's Texts. Then which of them have a text, and how they are read: Sides (rules and pairs), Points, States, Journals, Widths. They are built of
-- Choices (one of two codes, where one may be missing), Numbered and Named (lines numbered in order) and Sections (lines up to another kind).
pub mod Choices
pub mod Fitting
pub mod Journals
pub mod Multisets
pub mod Named
pub mod Numbered
pub mod Points
pub mod Sections
pub mod Sides
pub mod StateTexts
pub mod States
pub mod Widths
