-- Quantified formulas with generations.
use Rattle.std.specs.Prelude.{ℕ, ◌≤◌, Bool, ◌&&◌, nat_le, nat_lt, List, [], ◌∷◌, ◌++◌, ◌≡◌, ◌⊎◌}
use Rattle.std.specs.List.{Contains}
use Rattle.ae_base.specs.Decided.{decided}
use Rattle.ae_core.specs.Decided.{Formula_discrete}
use Rattle.ae_core.specs.declared.formulas.Formula.{Formula, Formula-F, All, Ex, para-Formula}
use Rattle.ae_core.specs.declared.formulas.Formula.TheOpen as layer
use Rattle.ae_core.specs.declared.formulas.Quant.{Quant}
use Rattle.ae_ages.specs.declared.entries.Aged.{Aged}

-- one of the entries gives the formula a generation of at most n
pub record HasAge (es : List Aged) (n : ℕ) (f : Formula) : Type 0 where
  pub entry : Aged
  pub among : Contains es entry
  pub is : entry.formula ≡ f
  pub young : entry.generation ≤ n

-- an entry gives a formula a generation of at most n, or one below n
abbrev pub gives_age : Formula → ℕ → Aged → Bool
gives_age f n e = nat_le e.generation n && decided (Formula_discrete e.formula f)

abbrev pub gives_less : Formula → ℕ → Aged → Bool
gives_less f n e = nat_lt e.generation n && decided (Formula_discrete e.formula f)

-- these formulas got a generation of at most g, and nothing else changed
pub record AreAged (g : ℕ) (old new : List Aged) (hs : List Formula) : Type 0 where
  pub kept : (n : ℕ) (f : Formula) → HasAge old n f → HasAge new n f
  pub aged : (f : Formula) → Contains hs f → HasAge new g f
  pub only : (n : ℕ) (f : Formula) → HasAge new n f → HasAge old n f ⊎ ((g ≤ n) × Contains hs f)

-- the quantified formulas among a formula and its parts, those that stand inside of another one left out
abbrev pub quantified_step : Formula-F (Formula × List Formula) (Quant × Unit {0}) → List Formula
quantified_step (layer.Not a) = a.1
quantified_step (layer.And a b) = a.1 ++ b.1
quantified_step (layer.Or a b) = a.1 ++ b.1
quantified_step (layer.Xor a b) = a.1 ++ b.1
quantified_step (layer.Iff a b) = a.1 ++ b.1
quantified_step (layer.All q) = All q.0 ∷ []
quantified_step (layer.Ex q) = Ex q.0 ∷ []
quantified_step _ = []

unfoldable pub quantified : Formula → List Formula
quantified = para-Formula (List Formula) (Unit {0}) quantified_step (λ q. tt)
