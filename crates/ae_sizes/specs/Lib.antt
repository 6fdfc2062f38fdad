-- Read Small: which formulas are within the limits of a declaration. Nothing in Inner has to be believed.
pub mod Small
pub mod Inner
