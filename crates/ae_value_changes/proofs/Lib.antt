mod Maps
mod Kept
pub mod Puts
mod Mapping
