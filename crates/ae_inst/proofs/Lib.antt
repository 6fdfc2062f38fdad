pub mod SameNames
pub mod IndexLaws
