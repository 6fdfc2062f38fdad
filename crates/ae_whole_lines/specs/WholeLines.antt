-- A text as whole lines.
use Rattle.std.specs.Prelude.{ℕ, List, ◌++◌, codes}
use Rattle.ae_report.specs.Lines.{AreLines}

-- the text where it ends with a line break or is empty, and else the text with a line break behind it
pub data IsInLines (text : List ℕ) : List ℕ → Type 0 where
  whole : AreLines text → IsInLines text text
  broken : ¬ (AreLines text) → IsInLines text (text ++ codes "\n")
