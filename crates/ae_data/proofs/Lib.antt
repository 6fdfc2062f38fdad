pub mod RecordLaws
pub mod FieldEquations
pub mod ConstructorLaws
pub mod ExhaustionLaws
