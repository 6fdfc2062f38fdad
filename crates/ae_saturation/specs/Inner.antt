-- What a turn comes to, and all turns together.
pub mod Turned
pub mod Saturated
