pub mod NamedLiterals
mod SaidEquations
pub mod SeenConstructors
mod OpposedAtoms
mod Meeting
