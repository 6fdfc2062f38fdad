pub mod Symbols
pub mod Systems
