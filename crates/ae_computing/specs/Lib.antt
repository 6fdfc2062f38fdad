-- The clause that `has_computed` decides is one of ae_decide's (Clauses). Nothing in Inner has to be believed: it is the test.
pub mod Inner
