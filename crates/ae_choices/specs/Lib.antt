-- Choices: what stands behind one of a few words. Whole: what the reader of a whole text answers.
pub mod Choices
pub mod Whole
