pub mod Saying
pub mod Sorting
pub mod Naming
pub mod Marking
pub mod Building
mod Adding
pub mod Rounding
pub mod OneMore
mod Ending
mod Blocks
mod TightSums
mod Listing
mod Dividing
