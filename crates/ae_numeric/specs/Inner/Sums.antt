-- Sums of earlier lines: which lines may stand in one, what is computed of each, and what it means.
use Rattle.std.specs.Prelude.{ℕ, ℤ, pos, Bool, true, false, ◌&&◌, ◌||◌, int_lt, List, [], ◌∷◌, ◌≡◌, ◌<◌, length, slice_get, Option, Some, None}
use Rattle.std.specs.List.{list_all, AllByRecursion}
use Rattle.ae_math.specs.Fractions.{zero_ℚ, whole}
use Rattle.ae_math.specs.Forms.{plus, minus, scale, number}
use Rattle.ae_num.specs.declared.forms.Lin.{Lin}
use Rattle.ae_rules.specs.Linear.{Linear, form}
use Rattle.ae_core.specs.Sorts.{sort_of, same_numeric}
use Rattle.ae_rules.specs.Lines.{Fact, states, Combined, SumsTo}
use Rattle.ae_core.specs.declared.terms.Sort.{Sort}
use Rattle.ae_core.specs.declared.terms.Term.{Term}
use Rattle.ae_core.specs.declared.problems.Signature.{Signature}
use Rattle.ae_core.specs.declared.proofs.EqLine.{EqLine}
use Rattle.ae_core.specs.declared.proofs.Scaled.{Scaled}
use Rattle.ae_core.specs.declared.proofs.Relation.{Relation}
use Rattle.ae_core.specs.declared.proofs.Relation.TheVariants.{Equal, AtMost, Below}
use Rattle.ae_numeric.specs.Stated.{Computation, computed, subtracted, is_equation, known, nought, added_up}
use Rattle.ae_numeric.specs.Computing.{IsSorted, IsResult, IsFormOf}

-- a sum that is an equation is one of equations
abbrev pub may_join : Relation → Fact → Bool
may_join Equal f = is_equation f
may_join AtMost f = true
may_join Below f = true

-- the difference that is summed: left minus right for an equation, right minus left for an inequality
abbrev pub difference_of : Relation → Term → Term → Computation
difference_of Equal s t = subtracted (computed s) (computed t)
difference_of AtMost s t = subtracted (computed t) (computed s)
difference_of Below s t = subtracted (computed t) (computed s)

abbrev pub summed : Relation → Fact → Computation
summed r f = difference_of r f.left f.right

-- what it means
abbrev pub meant : Relation → Term → Term → Linear
meant Equal s t = minus (form s) (form t)
meant AtMost s t = minus (form t) (form s)
meant Below s t = minus (form t) (form s)

-- the facts that earlier lines of these numbers state, with the factors
abbrev pub facts_of : List EqLine → List Scaled → List (ℤ × Fact)
facts_of earlier [] = []
facts_of earlier (p ∷ ps) = elim (slice_get earlier p.line) [ Some l ↦ (p.factor, states l) ∷ facts_of earlier ps | None ↦ facts_of earlier ps ]

-- what the scaled differences mean, added
abbrev pub meant_sum : Relation → List (ℤ × Fact) → Linear
meant_sum r [] = number zero_ℚ
meant_sum r (f ∷ fs) = plus (scale (whole f.0) (meant r (f.1).left (f.1).right)) (meant_sum r fs)

-- the part's number is that of a line that may stand in the sum, and whose terms are of the sort
abbrev pub part_fits : Signature → Option Sort → Relation → List EqLine → Scaled → Bool
part_fits sig own r earlier p =
    elim (slice_get earlier p.line) [ Some l ↦ may_join r (states l) && same_numeric own (sort_of sig (states l).left) && same_numeric own (sort_of sig (states l).right) | None ↦ false ]

-- a line and the parts of its sum: all terms are of one numeric sort
abbrev pub sum_fits : Signature → List EqLine → Fact → List Scaled → Bool
sum_fits sig earlier fact ps =
    same_numeric (sort_of sig fact.left) (sort_of sig fact.right) && list_all (part_fits sig (sort_of sig fact.left) fact.relation earlier) ps

-- the part's number is that of a line whose terms are well sorted
abbrev pub IsSummand : List EqLine → Scaled → Type 0
IsSummand earlier p = (l : EqLine) × (slice_get earlier p.line ≡ Some l) × IsSorted (states l).left × IsSorted (states l).right

-- a line's difference times a factor is the sum of what the parts name, and all terms are of one numeric sort
abbrev pub IsSum : Signature → List EqLine → Fact → ℤ → List Scaled → Type 0
IsSum sig earlier fact d ps =
    (fs : List (ℤ × Fact)) × Combined earlier ps fs × AllByRecursion (λ f. may_join fact.relation f.1 ≡ true) fs × SumsTo sig d fact fs

-- the part's factor is one that its line may have: any for an equation, a positive one for an inequality
abbrev pub may_count : List EqLine → Scaled → Bool
may_count earlier p = elim (slice_get earlier p.line) [ Some l ↦ is_equation (states l) || int_lt (pos 0) p.factor | None ↦ false ]

abbrev pub is_strict : Fact → Bool
is_strict f = elim f.relation [ Equal ↦ false | AtMost ↦ false | Below ↦ true ]

-- the part's line is a strict inequality
abbrev pub is_strict_part : List EqLine → Scaled → Bool
is_strict_part earlier p = elim (slice_get earlier p.line) [ Some l ↦ is_strict (states l) | None ↦ false ]

-- a form to which some facts' scaled differences have been added: what was computed, what it means, and that the keys from before stay
pub record IsRunning (r : Relation) (fs : List (ℤ × Fact)) (before after : List Term) (f : Lin) : Type 0 where
  pub result : IsResult (added_up (summed r) (known nought) fs) before after f
  pub meaning : IsFormOf after f (meant_sum r fs)
  pub kept : (k : ℕ) → k < length before → slice_get after k ≡ slice_get before k
