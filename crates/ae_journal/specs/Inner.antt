-- The numbering of keys and terms, which the definitions need and no reader.
pub mod Lowest
pub mod Numbering
