pub mod PartLaws
pub mod PartReading
pub mod Readable
