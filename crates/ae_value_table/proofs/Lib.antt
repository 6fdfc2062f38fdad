pub mod ValueLaws
pub mod Least
pub mod Places
pub mod Versioning
