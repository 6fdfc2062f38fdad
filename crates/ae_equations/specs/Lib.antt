-- Rules, pairs of rules and equations that wait. Read in this order: Paired (what each rule was paired with), Queued (the equations that wait, the oldest first),
-- Held (all of it), Stale (rules with names that are no representatives), Versions (what `share` gives and `back` takes).
-- Inner is what holds of the links and places between the calls.
pub mod Paired
pub mod Queued
pub mod Held
pub mod Stale
pub mod Versions
pub mod Inner
