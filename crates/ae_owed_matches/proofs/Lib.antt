pub mod Bridges
pub mod FoundLaws
pub mod NoneOwed
pub mod CleanTerms
pub mod Closed
pub mod Taking
