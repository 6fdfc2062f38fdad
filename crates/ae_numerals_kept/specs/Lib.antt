-- Numerals in lowest terms: those of terms and of formulas.
pub mod Lowest
