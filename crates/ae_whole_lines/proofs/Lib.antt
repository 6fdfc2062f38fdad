pub mod LastBytes
pub mod SameTokens
pub mod SameRules
pub mod SameFiles
pub mod Parting
