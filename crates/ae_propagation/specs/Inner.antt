pub mod Scan
pub mod Finding
pub mod Coding
