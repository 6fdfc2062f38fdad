mod Enumerated
pub mod Filling
