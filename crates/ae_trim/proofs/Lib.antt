pub mod Rising
pub mod Marking
pub mod Keeping
pub mod Deriving
