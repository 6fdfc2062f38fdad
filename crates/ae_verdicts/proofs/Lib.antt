pub mod SameLists
pub mod OneVerdict
