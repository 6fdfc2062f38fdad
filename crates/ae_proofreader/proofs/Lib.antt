pub mod PlaceReading
pub mod VersionReading
pub mod WholeReading
