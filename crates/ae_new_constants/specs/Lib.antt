-- Constants that are new.
pub mod Below
