pub mod Stepping
pub mod Indexed
pub mod Chosen
pub mod Counted
pub mod Coming
