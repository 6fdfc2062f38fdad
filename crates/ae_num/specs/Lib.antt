-- Read in this order: Limits (which numbers there are), Forms (what a form means, its normal form, the products and sums that a step
-- states, and the first that leaves the limits). Inner says how sums and multiples are made, part by part.
pub mod Limits
pub mod Forms
pub mod Inner
