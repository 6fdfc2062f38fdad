pub mod OwnerPatterns
pub mod Numbers
