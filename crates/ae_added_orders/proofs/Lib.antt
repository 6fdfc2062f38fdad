mod Concluding
pub mod Over
mod Coming
