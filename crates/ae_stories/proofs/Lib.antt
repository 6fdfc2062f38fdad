pub mod Plain
pub mod Instances
pub mod Legal
pub mod Names
