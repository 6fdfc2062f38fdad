-- What private functions compute.
pub mod EndingParts
pub mod LastLine
pub mod LentTerms
pub mod Mentions
pub mod RecordFields
