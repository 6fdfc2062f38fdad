pub mod Joined
pub mod Again
pub mod Places
pub mod Whole
