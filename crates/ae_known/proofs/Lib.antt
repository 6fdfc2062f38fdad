pub mod IndexLaws
pub mod PlaceLaws
