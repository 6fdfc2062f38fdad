-- What holds while clauses are brought. A reader need not believe any of it.
pub mod Bringing
