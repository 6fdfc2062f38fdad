pub mod Quantified
pub mod Parts
pub mod Entered
pub mod Aging
pub mod Having
pub mod Covering
pub mod Justifying
