pub mod Distinct
pub mod Denying
pub mod Comparisons
pub mod Orders
pub mod Reasons
pub mod Asked
