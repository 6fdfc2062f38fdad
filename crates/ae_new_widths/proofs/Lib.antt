mod Operations
pub mod OpaqueNames
mod Negations
mod LineNumbers
mod Licences
