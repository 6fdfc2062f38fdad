-- Steps that are allowed: those of values (ValueSteps), and those of multisets of names under an AC symbol (ManySteps).
pub mod ValueSteps
pub mod ManySteps
