-- Drafts: what the typing of a declaration with terms promises, in the words of Typings in ae_elab. Definitions: the axioms that
-- definitions are, with the defined symbol's number. Nothing in Inner has to be believed.
pub mod Drafts
pub mod Definitions
pub mod Inner
