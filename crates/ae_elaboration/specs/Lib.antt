-- What proofs alone need. The rules are definitions of ae_elab: specs/Elaboration, and specs/Numbering.
pub mod Inner
