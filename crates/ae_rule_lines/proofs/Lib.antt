pub mod LiveLines
pub mod Grown
pub mod OtherLines
pub mod Entered
pub mod Dropped
pub mod Coupled
pub mod NewSides
pub mod Legality
