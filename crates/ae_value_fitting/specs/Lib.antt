-- Fitting says when what is held of names fits the terms of a store; Sources, what the steps that say values rest on; Refusals, what is said of a refused width.
pub mod Fitting
pub mod Sources
pub mod Refusals
