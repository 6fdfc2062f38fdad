mod Gaps
pub mod RowLines
pub mod Literals
mod Ordered
mod Fitting
