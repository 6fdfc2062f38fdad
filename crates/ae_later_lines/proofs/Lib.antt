pub mod Later
pub mod Names
