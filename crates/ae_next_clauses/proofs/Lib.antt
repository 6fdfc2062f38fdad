pub mod Naming
pub mod Coming
