-- What a verdict says of a proof, beside the calculus of ae_rules and the lines that are reached (ae_calc, Reached), which are to be read first.
-- Inner holds nothing to be believed.
pub mod Verdicts
pub mod Inner
