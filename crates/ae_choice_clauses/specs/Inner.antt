-- What holds while the clauses are added. A reader need not believe any of it.
pub mod Added
