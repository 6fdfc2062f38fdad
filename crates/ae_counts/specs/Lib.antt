-- Nothing of it is believed: the public contracts speak of the definitions of ae_writable, ae_legal_texts, ae_legal_states and ae_legal_stories alone.
-- Inner has what the functions say of each other.
pub mod Inner
