pub mod Places
pub mod Named
pub mod Closing
pub mod Sorts
pub mod Heads
pub mod Worded
mod Lists
mod Numerals
mod TermLayers
mod Applications
mod Terms
mod Formulas
mod Rising
mod Repeated
pub mod Rules
pub mod Signs
pub mod Lines
pub mod Allowed
pub mod Legal
