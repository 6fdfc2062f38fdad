pub mod PatternLaws
pub mod Adding
pub mod PairLaws
pub mod FieldSteps
pub mod Alike
