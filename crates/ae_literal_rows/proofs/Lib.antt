pub mod Sides
pub mod Values
mod SideNames
mod Numbers
mod Widths
pub mod Tags
pub mod Places
mod Added
pub mod Adding
pub mod Telling
