pub mod Constants
pub mod Ages
pub mod Fresh
pub mod Holding
pub mod Steps
pub mod Placing
