pub mod Quotients
pub mod Whole
pub mod Legal
pub mod Lines
