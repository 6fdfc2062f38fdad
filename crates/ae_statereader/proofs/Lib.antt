pub mod LineLaws
pub mod NumberedReading
pub mod PointReading
pub mod SectionReading
pub mod StateReading
