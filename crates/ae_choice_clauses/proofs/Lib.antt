pub mod Kept
pub mod Constructors
pub mod Growth
pub mod Begun
