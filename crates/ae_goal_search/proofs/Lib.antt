pub mod Sorted
pub mod Begun
pub mod Left
pub mod Settling
pub mod Passing
