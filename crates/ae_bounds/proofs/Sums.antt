-- Rows are sums of those that were assumed or rounded.
use Rattle.std.specs.Prelude.{ℕ, zero, suc, ◌<◌, ◌≡◌, ◌≢◌, Bool, ◌||◌, List, [], ◌∷◌, Option, Some, None, take, slice_get}
use Rattle.std.specs.List.{Contains}
use Rattle.std.proofs.Common.{arith, refl, sym, ap, ◌∙◌, subst}
use native.Mathlib.Decide.{ℕ_discrete}
use Rattle.ae_base.proofs.Tests.{true_false}
use Rattle.ae_math.specs.Fractions.{neg_ℚ, is_positive}
use Rattle.ae_math.proofs.FractionLaws.{neg_zero_q}
use Rattle.ae_math.proofs.FractionOrder.{positive_zero}
use Rattle.ae_math.proofs.FormLaws.{same_sym}
use Rattle.ae_num.specs.declared.forms.Part.{Part}
use Rattle.ae_num.specs.declared.forms.Lin.{Lin}
use Rattle.ae_num.specs.Forms.{meaning, IsNormal}
use Rattle.ae_rows.specs.Rows.{combination, factor_at, IsLower, IsUpper}
use Rattle.ae_journal.proofs.Splits.{contains_here, contains_later}
use Rattle.ae_ineq.specs.declared.solving.Inequality.{Inequality}
use Rattle.ae_ineq.specs.Sums.{IsZero, HasTightSum, HasRefutedSum}
use Rattle.ae_ineq.specs.Inner.Derived.{IsNonzeroSum}
use Rattle.ae_ineq.proofs.Deriving.{sum_both, nonzero_same, nonzero_one, sum_one, tight_sum, refuted_sum}
use Rattle.ae_journal.specs.Sides.{AreDivided, IsRounded}
use Rattle.ae_bounds.specs.declared.rows.Row.{Row}
use Rattle.ae_bounds.specs.declared.rows.Unrounded.{Unrounded}
use Rattle.ae_bounds.specs.declared.rows.Origin.{Origin}
use Rattle.ae_bounds.specs.declared.rows.Origin.TheVariants.{Assumed, Combined}
use Rattle.ae_bounds.specs.Rounding.{IsRowOf}
use Rattle.ae_bounds.specs.Rounding.IsRowOf.{as_it_is, rounded}
use Rattle.ae_bounds.specs.Combinations.{IsCombined}
use Rattle.ae_bounds.proofs.Zeros.{form_zero}
use Rattle.ae_bounds.specs.Findings.{with_given, given_in, AreFounded, IsRefutedAt, IsTightAt}

pub some_none : (u : Unrounded) (o : Option Unrounded) → o ≡ Some u → o ≡ None → ⊥
some_none u o e f = let g : Some u ≡ None = sym e ∙ f in cc

-- a place of the first k
take_place : (k : ℕ) (rows : List Row) (i : ℕ) (r : Row) → slice_get (take k rows) i ≡ Some r → (i < k) × (slice_get rows i ≡ Some r)
take_place zero rows i r e = cc
take_place (suc k) [] i r e = cc
take_place (suc k) (x ∷ rows) zero r e = (omega arith, e)
take_place (suc k) (x ∷ rows) (suc i) r e = let h = take_place k rows i r e in let l = h.0 in (omega (arith, l), h.1)

-- ---- the rows that were assumed or rounded
abbrev inequality_of : Row → Inequality
inequality_of r = record { lin = r.lin; strict = r.strict }

more_given : (o : Origin) (u : Option Unrounded) (r : Row) (given : List Inequality) (i : Inequality) → Contains given i → Contains (with_given o u r given) i
more_given (Assumed tag) u r given i c = contains_later (inequality_of r) given i c
more_given (Combined lower upper) (Some u) r given i c = contains_later (inequality_of r) given i c
more_given (Combined lower upper) None r given i c = c

-- the others are combinations that weren't rounded
abbrev IsPlain : Row → Type 0
IsPlain r = (lower : ℕ) × (upper : ℕ) × (r.from ≡ Combined lower upper) × (r.unrounded ≡ None)

own_given : (o : Origin) (u : Option Unrounded) (r : Row) (given : List Inequality) → ((lower upper : ℕ) → o ≡ Combined lower upper → u ≡ None → ⊥) → Contains (with_given o u r given) (inequality_of r)
own_given (Assumed tag) u r given n = contains_here (inequality_of r) given
own_given (Combined lower upper) (Some u) r given n = contains_here (inequality_of r) given
own_given (Combined lower upper) None r given n = absurd (n lower upper refl refl)

among_given : (rows : List Row) (k : ℕ) (r : Row) → slice_get rows k ≡ Some r → ¬ IsPlain r → Contains (given_in rows) (inequality_of r)
among_given [] k r e n = cc
among_given (x ∷ rows) zero r e n =
    let s : x ≡ r = cc in
    subst (λ (y : Row). Contains (with_given x.from x.unrounded x (given_in rows)) (inequality_of y)) s
    (own_given x.from x.unrounded x (given_in rows) (λ lower upper o u. n (lower, upper, ap (λ (y : Row). y.from) (sym s) ∙ o, ap (λ (y : Row). y.unrounded) (sym s) ∙ u)))
among_given (x ∷ rows) (suc k) r e n = more_given x.from x.unrounded x (given_in rows) (inequality_of r) (among_given rows k r e n)

-- a row is such a combination or not
by_plain : (o : Origin) (u : Option Unrounded) (r : Row) → r.from ≡ o → r.unrounded ≡ u → Dec (IsPlain r)
by_plain (Assumed tag) u r e f = no (λ p. assumed_only tag p.0 p.1 (sym e ∙ p.2))
  where
    assumed_only : (tag lower upper : ℕ) → ◌≡◌ {A = Origin} (Assumed tag) (Combined lower upper) → ⊥
    assumed_only tag lower upper e = cc
by_plain (Combined lower upper) (Some u) r e f = no (λ p. some_none u r.unrounded f p.3)
by_plain (Combined lower upper) None r e f = yes (lower, upper, e, f)

-- a combination that wasn't rounded has its own form and strictness
pub plain_is : (l : Lin) (s : Bool) (r : Row) → IsRowOf l s r → r.unrounded ≡ None → (r.lin ≡ l) × (r.strict ≡ s)
plain_is l s r (as_it_is a b c d) n = (a, b)
plain_is l s r (rounded a b c d e) n = absurd (some_none (record { lin = l; strict = s }) r.unrounded e n)

-- ---- a row with a name isn't 0
pub lower_nonzero : (n : ℕ) (r : Row) → IsLower n (meaning r.lin) → ¬ IsZero (meaning r.lin)
lower_nonzero n r low z = true_false (sym low.sign ∙ ap is_positive (z.over.absent n (omega arith)) ∙ positive_zero)

pub upper_nonzero : (n : ℕ) (r : Row) → IsUpper n (meaning r.lin) → ¬ IsZero (meaning r.lin)
upper_nonzero n r up z = true_false (sym up.sign ∙ ap (λ x. is_positive (neg_ℚ x)) (z.over.absent n (omega arith)) ∙ ap is_positive neg_zero_q ∙ positive_zero)

-- ---- a rounded row has names
divided_some : (d : ℕ) (qs rs : List Part) → AreDivided d qs rs → rs ≡ [] → qs ≡ []
divided_some d [] rs a e = refl
divided_some d (q ∷ qs) [] a e = absurd a
divided_some d (q ∷ qs) (r ∷ rs) a e = cc

pub rounded_nonzero : (strict : Bool) (l r : Lin) → IsNormal r → l.parts ≢ [] → IsRounded strict l r → IsZero (meaning r) → ⊥
rounded_nonzero strict l r n m d z = m (divided_some d.divisor l.parts r.parts d.divided (form_zero r n z).0)

pub row_nonzero : (l : Lin) (s : Bool) (r : Row) (u : Unrounded) → IsNormal r.lin → IsRowOf l s r → r.unrounded ≡ Some u → IsZero (meaning r.lin) → ⊥
row_nonzero l s r u n (as_it_is a b c d) e z = some_none u r.unrounded e c
row_nonzero l s r u n (rounded a b c d f) e z = rounded_nonzero s l r.lin n b c z

module _ (rows : List Row) (founded : AreFounded rows) where
  abbrev Summed : Row → Type 0
  Summed t = IsNonzeroSum (given_in rows) (meaning t.lin) t.strict

  -- one combination
  both : (k : ℕ) (r : Row) → IsCombined (take k rows) r → r.unrounded ≡ None → ((i : ℕ) (t : Row) → i < k → slice_get rows i ≡ Some t → ¬ IsZero (meaning t.lin) → Summed t) → Summed r
  both k r c plain before =
      let a = take_place k rows c.lower c.first c.opposed.first_at in
      let b = take_place k rows c.upper c.second c.opposed.second_at in
      let m = before c.lower c.first a.0 a.1 (lower_nonzero c.name c.first c.opposed.below) in
      let n = before c.upper c.second b.0 b.1 (upper_nonzero c.name c.second c.opposed.above) in
      let f = meaning c.first.lin in
      let g = meaning c.second.lin in
      let is = plain_is c.of.form (c.first.strict || c.second.strict) r c.of.of plain in
      let sum = sum_both (given_in rows) f g c.first.strict c.second.strict (neg_ℚ (factor_at c.name g)) (factor_at c.name f) c.opposed.above.sign c.opposed.below.sign m n in
      subst (λ (s : Bool). IsNonzeroSum (given_in rows) (meaning r.lin) s) (sym is.1)
      (subst (λ (l : Lin). IsNonzeroSum (given_in rows) (meaning l) (c.first.strict || c.second.strict)) (sym is.0)
      (nonzero_same (given_in rows) (combination c.name f g) (meaning c.of.form) (c.first.strict || c.second.strict) (same_sym ℕ_discrete (meaning c.of.form) (combination c.name f g) c.of.same) sum))

  sums_below : (n k : ℕ) (r : Row) → k < n → slice_get rows k ≡ Some r → ¬ IsZero (meaning r.lin) → Summed r
  sums_below zero k r l e z = absurd (omega (arith, l))
  sums_below (suc n) k r l e z = by_kind (λ i t m d y. sums_below n i t (omega (arith, l, m)) d y) (by_plain r.from r.unrounded r refl refl)
    where
      by_kind : ((i : ℕ) (t : Row) → i < k → slice_get rows i ≡ Some t → ¬ IsZero (meaning t.lin) → Summed t) → Dec (IsPlain r) → Summed r
      by_kind before (no m) = nonzero_one (given_in rows) (inequality_of r) (among_given rows k r e m) z
      by_kind before (yes p) = both k r (founded k p.0 p.1 r e p.2) p.3 before

  plain_sum : (k : ℕ) (r : Row) → slice_get rows k ≡ Some r → IsPlain r → Summed r
  plain_sum k r e p = both k r (founded k p.0 p.1 r e p.2) p.3 (λ i t m d y. sums_below k i t m d y)

  pub refuted_at : (k : ℕ) → IsRefutedAt rows k → HasRefutedSum (given_in rows)
  refuted_at k h = by_kind (by_plain h.row.from h.row.unrounded h.row refl refl)
    where
      by_kind : Dec (IsPlain h.row) → HasRefutedSum (given_in rows)
      by_kind (no m) = refuted_sum (given_in rows) (meaning h.row.lin) h.row.strict (sum_one (given_in rows) (inequality_of h.row) (among_given rows k h.row h.at m)) h.refuted
      by_kind (yes p) = refuted_sum (given_in rows) (meaning h.row.lin) h.row.strict (plain_sum k h.row h.at p).sum h.refuted

  -- a rounded row isn't 0
  zero_plain : (k : ℕ) (h : IsTightAt rows k) → (o : Option Unrounded) → h.row.unrounded ≡ o → IsPlain h.row
  zero_plain k h None e = (h.lower, h.upper, h.from, e)
  zero_plain k h (Some u) e = let c = founded k h.lower h.upper h.row h.at h.from in absurd (row_nonzero c.of.form (c.first.strict || c.second.strict) h.row u c.of.normal c.of.of e h.zero)

  pub tight_at : (k : ℕ) → IsTightAt rows k → HasTightSum (given_in rows)
  tight_at k h = tight_sum (given_in rows) (meaning h.row.lin) h.row.strict (plain_sum k h.row h.at (zero_plain k h h.row.unrounded refl)) h.loose h.zero
