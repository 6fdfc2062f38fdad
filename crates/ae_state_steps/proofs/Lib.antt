pub mod Stated
pub mod OverTerms
pub mod SideSorts
mod Changes
mod Orders
mod Many
