pub mod SameTerms
pub mod EqualNow
pub mod Searches
