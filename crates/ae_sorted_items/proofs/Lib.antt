pub mod Wider
pub mod Items
