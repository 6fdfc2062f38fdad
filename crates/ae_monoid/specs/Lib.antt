-- Read in this order: Rules (what a rule is, and how rules are held), Reductions (multisets that are reduced by them, with justifications),
-- Equations (what Deduce gives of two rules), Changes (rules that are entered, changed and taken out), Versions (what `share` gives and
-- `back` takes). Inner is how rules are found by names.
pub mod Rules
pub mod Reductions
pub mod Equations
pub mod Changes
pub mod Versions
pub mod Inner
