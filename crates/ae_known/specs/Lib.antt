-- Names by what they apply (Index). What undoes an entry need not be believed (Inner).
pub mod Index
pub mod Inner
