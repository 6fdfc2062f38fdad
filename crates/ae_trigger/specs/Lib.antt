-- The triggers of what is instantiated: Patterns says how a call's patterns are those of the definition (ae_journal/specs/Triggers, States).
pub mod Patterns
pub mod Inner
