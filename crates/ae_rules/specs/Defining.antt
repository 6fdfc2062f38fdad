-- The rows that a true literal calls for: what the truth of its formula, or its falsehood, means for the formula's parts.
use Rattle.std.specs.Prelude.{ℕ, Bool, true, false, List, [], ◌∷◌, ◌≡◌, map, Some}
use Rattle.std.specs.List.{Contains}
use Rattle.ae_core.specs.declared.formulas.Formula.{Formula, Formula-F, out-Formula}
use Rattle.ae_core.specs.declared.formulas.Formula.TheOpen as layer_of
use Rattle.ae_core.specs.declared.formulas.Quant.{Quant}
use Rattle.ae_core.specs.declared.formulas.Lit.{Lit}
use Rattle.ae_rules.specs.Clauses.{row, opposite}
use Rattle.ae_rules.specs.declared.rows.TheConstants.{AND_TO_LEFT, AND_TO_RIGHT, AND_FROM_BOTH, OR_FROM_LEFT, OR_FROM_RIGHT, OR_TO_EITHER, IFF_TO_RIGHT, IFF_TO_LEFT, IFF_FROM_NEITHER, IFF_FROM_BOTH, XOR_TO_EITHER, XOR_TO_NOT_BOTH, XOR_FROM_LEFT, XOR_FROM_RIGHT, TRUE_STANDS, FALSE_FAILS}
use Rattle.ae_core.specs.declared.proofs.ClauseLine.{ClauseLine}
use Rattle.ae_core.specs.declared.proofs.ClauseLine.TheVariants.{Def}

-- their numbers; an atom, a block of variables and a negation have none
unfoldable pub called_rows_of : Formula-F Formula Quant → Bool → List ℕ
called_rows_of (layer_of.And a b) true = AND_TO_LEFT ∷ AND_TO_RIGHT ∷ []
called_rows_of (layer_of.And a b) false = AND_FROM_BOTH ∷ []
called_rows_of (layer_of.Or a b) true = OR_TO_EITHER ∷ []
called_rows_of (layer_of.Or a b) false = OR_FROM_LEFT ∷ OR_FROM_RIGHT ∷ []
called_rows_of (layer_of.Iff a b) true = IFF_TO_RIGHT ∷ IFF_TO_LEFT ∷ []
called_rows_of (layer_of.Iff a b) false = IFF_FROM_NEITHER ∷ IFF_FROM_BOTH ∷ []
called_rows_of (layer_of.Xor a b) true = XOR_TO_EITHER ∷ XOR_TO_NOT_BOTH ∷ []
called_rows_of (layer_of.Xor a b) false = XOR_FROM_LEFT ∷ XOR_FROM_RIGHT ∷ []
called_rows_of layer_of.True sign = TRUE_STANDS ∷ []
called_rows_of layer_of.False sign = FALSE_FAILS ∷ []
called_rows_of _ sign = []

unfoldable pub called_rows : Bool → Formula → List ℕ
called_rows sign f = called_rows_of (out-Formula f) sign

-- the lines `def` that state them, in the order of their numbers
abbrev pub defining_lines : Lit → List ClauseLine
defining_lines l = map (λ r. Def r l.formula) (called_rows l.positive l.formula)

-- ---- literals that come apart into literals
-- the rows that leave no choice: each says that one part is true by itself, or that a constant is
abbrev pub splitting_rows : List ℕ
splitting_rows = AND_TO_LEFT ∷ AND_TO_RIGHT ∷ OR_FROM_LEFT ∷ OR_FROM_RIGHT ∷ TRUE_STANDS ∷ FALSE_FAILS ∷ []

-- the literal calls for such rows alone, and so do the parts that they make true
pub data ComesApart : Lit → Type 0 where
  comes_apart : (l : Lit) → ((r : ℕ) → Contains (called_rows l.positive l.formula) r → Contains splitting_rows r)
      → ((r : ℕ) (m : Lit) → Contains (called_rows l.positive l.formula) r → row r l.formula ≡ Some (opposite l ∷ m ∷ []) → ComesApart m) → ComesApart l
