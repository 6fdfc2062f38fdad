-- Read Listed: how the cases of a term are held. The rules are definitions of ae_elab: Elaboration. Nothing in Inner has to be
-- believed.
pub mod Listed
pub mod Inner
