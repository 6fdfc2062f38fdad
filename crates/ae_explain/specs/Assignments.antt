-- True literals, and the numbers of formulas.
use Rattle.std.specs.Prelude.{◌≡◌, ◌≢◌, ℕ, Bool, List, slice_index_or, Option, Some, None}
use Rattle.std.specs.BTreeMap.{is_at}
use Rattle.std.specs.Map.{lookup}
use Rattle.std.specs.Option.{option_map}
use Rattle.ae_core.specs.Orders.{formula_order}
use Rattle.ae_core.specs.declared.formulas.Formula.{Formula}
use Rattle.ae_explain.specs.declared.trail.Assigned.{Assigned}
use Rattle.ae_explain.specs.Trail.{at, place_in}

-- the true literals in their order, and the formulas that have a number, each with it
pub record Assignment : Type 0 where
  pub assigned : List Assigned
  pub numbers : List (Formula × ℕ)

-- a formula's number, where it has one
abbrev pub number_in : List (Formula × ℕ) → Formula → Option ℕ
number_in numbers f = lookup (is_at (formula_order f)) numbers

-- a formula has got a number, and each other one stays as it was
pub record IsGiven (own : Formula) (n : ℕ) (old new : Formula → Option ℕ) : Type 0 where
  pub given : new own ≡ Some n
  pub others : (f : Formula) → f ≢ own → new f ≡ old f

-- formulas keep their numbers
abbrev pub AreKept : (Formula → Option ℕ) → (Formula → Option ℕ) → Type 0
AreKept old new = (f : Formula) (n : ℕ) → old f ≡ Some n → new f ≡ Some n

-- whether a formula is true, where it stands
abbrev pub value_in : List Assigned → Formula → Option Bool
value_in trail f = option_map (λ p. (at trail p).lit.positive) (place_in trail f)

-- by each number, whether its formula is true, where it stands
abbrev pub AreValues : (Formula → Option ℕ) → List (Option Bool) → List Assigned → Type 0
AreValues number values trail = (f : Formula) (n : ℕ) → number f ≡ Some n → slice_index_or values n None ≡ value_in trail f
