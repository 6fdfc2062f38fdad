pub mod Lists
pub mod Values
pub mod Standing
pub mod Sums
pub mod Legal
