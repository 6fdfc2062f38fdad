pub mod TakenOut
pub mod Turned
