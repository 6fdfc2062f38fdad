pub mod Forms
pub mod Multisets
pub mod Signs
pub mod Spans
pub mod Values
