pub mod Forms
pub mod Lookups
pub mod Ranges
pub mod SortReading
pub mod TermReading
