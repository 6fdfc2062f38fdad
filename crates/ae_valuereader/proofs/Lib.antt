pub mod Divides
pub mod FormReading
pub mod MultisetReading
pub mod SignReading
pub mod Spanning
pub mod ValueReading
