-- What the contracts of derived lines and endings with numbers say beside the calculus of ae_rules and the stated products and sums of ae_num, which are to be
-- read first. Then, in this order:
--   Stated      the products and sums that a derived line and an ending state
--   Computing   what a call answers that computes the form of a term over numbered keys
-- Nothing in Inner has to be believed: it says what forms and sums are on the way, and the calls that a line or an ending asks for don't speak of it.
pub mod Stated
pub mod Computing
pub mod Inner
