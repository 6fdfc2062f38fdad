-- Formulas and goals without inequality.
pub mod Orderless
