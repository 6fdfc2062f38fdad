pub mod Largest
pub mod Solutions
pub mod Links
mod RowLaws
mod Versions
mod Answered
mod Canons
