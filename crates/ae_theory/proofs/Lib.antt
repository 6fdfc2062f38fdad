pub mod Sharing
pub mod Finding
pub mod Following
pub mod Conflicts
pub mod Hopping
pub mod Ways
