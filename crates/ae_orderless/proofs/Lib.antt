pub mod Forms
pub mod Clauses
pub mod Hypotheses
