pub mod OperandsAnswers
pub mod PatternsAnswers
pub mod ValuesAnswers
