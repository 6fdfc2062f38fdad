pub mod KeyLaws
pub mod Meeting
