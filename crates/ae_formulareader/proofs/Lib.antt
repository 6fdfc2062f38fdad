pub mod FormulaReading
pub mod ListForms
pub mod LiteralReading
pub mod RowSteps
pub mod WordForms
