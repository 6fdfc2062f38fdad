-- Parts of an output that are read back: a part with a text, whose proof, where it is one, derives the goal. To be read after ae_parts' Parts and ae_verdicts' Verdicts.
pub mod ReadBack
