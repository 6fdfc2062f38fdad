pub mod PutConstants
pub mod Countermodels
