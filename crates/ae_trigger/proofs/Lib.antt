pub mod OccurrenceRules
pub mod CandidateLaws
pub mod BodyRules
pub mod KeptLaws
pub mod ChoiceLaws
pub mod PatternLaws
