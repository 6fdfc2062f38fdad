-- Conflicts: what steps say that rest on assumed literals (Saying), and when these can't hold together (Conflicting). Inner holds nothing to be believed.
pub mod Saying
pub mod Conflicting
pub mod Inner
