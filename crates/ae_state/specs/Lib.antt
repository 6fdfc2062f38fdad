-- What is held of names and of assumed literals. Read in this order: what a holding shows (Names); what holds of it at any time (Right); when it fits a
-- store (Fitting), and a mark it (Marks); when lines are in step with it (Stepping); when nothing is left to do, and conflicts (Complete); the lines that
-- say a value (Explaining); what names that are the same have in common (Laws). Inner is what is held at first, and what going back
-- leaves.
pub mod Names
pub mod Right
pub mod Fitting
pub mod Marks
pub mod Stepping
pub mod Complete
pub mod Explaining
pub mod Laws
pub mod Inner
