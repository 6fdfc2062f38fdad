pub mod Readiness
pub mod Steps
