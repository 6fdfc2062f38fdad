-- Lemmas of lower libraries, passed on with their words.
pub use Rattle.ae_between_rounds.proofs.Growing.{instances_lines, some_told}
pub use Rattle.ae_literal_rows.proofs.Places.{placed, there}
pub use Rattle.ae_literal_rows.proofs.Sides.{sides_named, sides_sorted}
pub use Rattle.ae_literal_rows.proofs.Values.{system_value}
