pub mod Kept
pub mod InStep
pub mod Left
