-- What is printed for the goals of a problem. Read in this order: Parts (what is printed for an item, and why it is right), Ground (what that says of a goal of
-- the ground fragment). Beside these stand the definitions of ae_search (right answers), ae_journal (saturated states, journals, ground proofs), ae_trim (which
-- lines of a proof are used, and which are its axioms), ae_statetext and ae_parts (the texts of answers).
-- Inner has what the functions say of each other; nothing of it is believed.
pub mod Parts
pub mod Ground
pub mod Inner
