-- What a run of the solver leaves of a search (Runs).
pub mod Runs
