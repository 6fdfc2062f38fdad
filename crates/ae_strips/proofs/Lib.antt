pub mod FieldTerms
pub mod FieldSorts
pub mod Freedom
pub mod Totals
mod FieldSteps
mod FieldMoves
