mod Forms
mod Single
pub mod Agreed
pub mod Assumed
pub mod Points
pub mod WholeRows
