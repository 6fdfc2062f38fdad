-- The rows of journals as terms and as whole numbers: their sides, and their rounding.
use Rattle.std.specs.Prelude.{ℕ, zero, suc, ℤ, pos, ◌-ℤ◌, ◌*ℤ◌, Bool, true, false, cond, List, [], ◌∷◌, ◌++◌, ◌≡◌, map, slice_get, Some, None, unsigned_abs}
use Rattle.std.specs.List.{AllByRecursion}
use lib.IntN.{neg_ℤ}
use Rattle.ae_core.specs.Sorts.{sort_of}
use Rattle.ae_rules.specs.Lines.{IsFloor}
use Rattle.ae_core.specs.declared.terms.Sort.{Sort, Int}
use Rattle.ae_core.specs.declared.terms.Term.{Term, Apply}
use Rattle.ae_core.specs.declared.terms.Op.TheVariants as op
use Rattle.ae_core.specs.declared.problems.Signature.{Signature}
use Rattle.ae_num.specs.Forms.{IsCommonDivisor}
use Rattle.ae_num.specs.declared.forms.Part.{Part}
use Rattle.ae_num.specs.declared.forms.Lin.{Lin}
use Rattle.ae_journal.specs.Systems.{arithmetic, scaled_term, numeral_of}

-- ---- the sides of a row: the sum of its positive summands, and that of the positive summands of its opposite, both without the denominator
abbrev pub is_negative : ℤ → Bool
is_negative (pos n) = false
is_negative _ = true

-- a factor stands before its name, and is left out where it is 1
abbrev pub times_term : Sort → ℤ → Term → Term
times_term s (pos (suc zero)) t = t
times_term s z t = scaled_term s z t

-- the positive summands, names rising
abbrev pub summands : Sort → List Term → List Part → List Term
summands s names [] = []
summands s names (q ∷ qs) =
    cond (is_negative q.factor) (summands s names qs) (elim (slice_get names q.key) [ None ↦ summands s names qs | Some t ↦ times_term s q.factor t ∷ summands s names qs ])

-- a positive constant comes last
abbrev pub last_summand : Sort → ℤ → List Term
last_summand s (pos (suc n)) = numeral_of s (pos (suc n)) ∷ []
last_summand s _ = []

abbrev pub grouped : Sort → Term → List Term → Term
grouped s t [] = t
grouped s t (u ∷ us) = grouped s (Apply (arithmetic s op.Add) [] (t ∷ u ∷ [])) us

-- grouped to the left; an empty sum is 0
abbrev pub sum_term : Sort → List Term → Term
sum_term s [] = numeral_of s (pos 0)
sum_term s (t ∷ ts) = grouped s t ts

abbrev pub opposite_row : Lin → Lin
opposite_row f = record { den = f.den; parts = map (λ q. record { key = q.key; factor = neg_ℤ q.factor }) f.parts; constant = neg_ℤ f.constant }

abbrev pub side : Sort → List Term → Lin → Term
side s names f = sum_term s (summands s names f.parts ++ last_summand s f.constant)

abbrev pub other_side : Sort → List Term → Lin → Term
other_side s names f = side s names (opposite_row f)

-- ---- rows of sort `int`
-- all names of the row have the sort `int`
abbrev pub AreWhole : Signature → List Term → Lin → Type 0
AreWhole sig names f = AllByRecursion (λ (q : Part). (t : Term) × (slice_get names q.key ≡ Some t) × (sort_of sig t ≡ Some Int)) f.parts

-- each factor divided
abbrev pub AreDivided : ℕ → List Part → List Part → Type 0
AreDivided d [] [] = Unit {0}
AreDivided d (q ∷ qs) (r ∷ rs) = (q.key ≡ r.key) × (q.factor ≡ r.factor *ℤ pos d) × AreDivided d qs rs
AreDivided d _ _ = ⊥

-- r is the row f rounded: without its denominator, the factors divided by their greatest common divisor, and the constant, less 1 where the row is strict, divided and rounded down
pub record IsRounded (strict : Bool) (f r : Lin) : Type 0 where
  pub divisor : ℕ
  pub whole : r.den ≡ pos 1
  pub divided : AreDivided divisor f.parts r.parts
  pub greatest : IsCommonDivisor (map (λ q. unsigned_abs q.factor) f.parts) divisor
  pub floor : IsFloor (cond strict (f.constant -ℤ pos 1) f.constant) divisor r.constant
