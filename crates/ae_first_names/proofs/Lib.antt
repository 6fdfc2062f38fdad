pub mod Lists
pub mod Stripped
pub mod FirstNames
