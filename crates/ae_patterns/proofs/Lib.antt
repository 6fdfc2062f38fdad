pub mod PatternLaws
mod NodePatterns
