pub mod Clap
pub mod RightWords
pub mod SomeWords
pub mod Ways
