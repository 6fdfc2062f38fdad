pub mod Brought
pub mod Opened
pub mod Begun
pub mod Holding
