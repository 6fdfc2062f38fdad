pub mod Coding
pub mod Gathered
pub mod Knowing
pub mod Novel
pub mod Numbering
pub mod Stepping
pub mod Verdicts
