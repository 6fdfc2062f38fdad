-- Literals that ask for terms, and whether their blocks were opened.
use Rattle.std.specs.Prelude.{ℕ, ◌<◌, ◌≡◌, Bool, true, false, not, List, length}
use Rattle.std.specs.List.{Contains}
use Rattle.ae_block_constants.specs.declared.opened.Opened.{Opened}
use Rattle.ae_core.specs.declared.formulas.Formula.{Formula, Formula-F, out-Formula}
use Rattle.ae_core.specs.declared.formulas.Formula.TheOpen as layer
use Rattle.ae_core.specs.declared.formulas.Lit.{Lit}
use Rattle.ae_core.specs.declared.formulas.Quant.{Quant}
use Rattle.ae_explain.specs.Trail.{at}
use Rattle.ae_explain.specs.declared.trail.Assigned.{Assigned}

abbrev pub asks_by : Bool → Formula-F Formula Quant → Bool
asks_by sign (layer.All q) = not sign
asks_by sign (layer.Ex q) = sign
asks_by sign _ = false

-- a false `forall` and a true `exists` ask for terms
abbrev pub asks_for_terms : Lit → Bool
asks_for_terms l = asks_by l.positive (out-Formula l.formula)

abbrev pub IsOpened : List Opened → Formula → Type 0
IsOpened opened f = (o : Opened) × Contains opened o × (o.formula ≡ f)

-- the literal asks for terms, and its block isn't opened
abbrev pub IsUnopened : List Opened → Lit → Type 0
IsUnopened opened l = (asks_for_terms l ≡ true) × (¬ IsOpened opened l.formula)

-- its block is opened, if it asks for terms
abbrev pub IsServed : List Opened → Lit → Type 0
IsServed opened l = asks_for_terms l ≡ true → IsOpened opened l.formula

-- the first place of a trail with a literal whose block has to be opened
pub record IsNextUnopened (t : List Assigned) (opened : List Opened) (place : ℕ) : Type 0 where
  pub within : place < length t
  pub unopened : IsUnopened opened (at t place).lit
  pub before : (j : ℕ) → j < place → IsServed opened (at t j).lit

abbrev pub AllServed : List Assigned → List Opened → Type 0
AllServed t opened = (j : ℕ) → j < length t → IsServed opened (at t j).lit
