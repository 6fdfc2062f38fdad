-- After all combinations of rows over fractions were noted none is left, and the widths of the making of their point are licensed.
use Rattle.std.specs.Prelude.{ℕ, ℤ, pos, Bool, true, List, [], ◌∷◌, ◌++◌, ◌≡◌, ◌≢◌, ◌⊎◌, Some, map, slice_get, unsigned_abs}
use Rattle.std.specs.List.{AllByRecursion, Contains}
use Rattle.std.proofs.Common.{arith, refl, sym, ap, ◌∙◌, subst, inl, inr}
use native.Mathlib.Decide.{ℕ_discrete}
use Rattle.std.proofs.Math.Nat.{eq-zero_of_zero-dvd}
use borrow.Author.Differences.{ints}
use Rattle.ae_base.proofs.Tests.{true_false}
use Rattle.ae_math.specs.Fractions.{ℚ, zero_ℚ, one_ℚ, neg_ℚ, ◌+ℚ◌, ◌*ℚ◌, ratio, is_positive}
use Rattle.ae_math.specs.Forms.{SameForm, scale}
use Rattle.ae_math.proofs.FractionLaws.{zero_mul_q, add_zero_q, one_mul_q}
use Rattle.ae_math.proofs.FormLaws.{factor_in-scale}
use Rattle.ae_math.proofs.Wholes.{ratio_is_zero}
use Rattle.ae_core.specs.Sorts.{sort_of}
use Rattle.ae_core.specs.declared.terms.Term.{Term}
use Rattle.ae_core.specs.declared.terms.Sort.{Int}
use Rattle.ae_num.specs.declared.forms.Part.{Part}
use Rattle.ae_num.specs.declared.forms.Lin.{Lin}
use Rattle.ae_num.specs.Forms.{meaning, factor_of, IsNormal, IsCommonDivisor, SameMeaning}
use Rattle.ae_num.proofs.MeaningLaws.{factor_meaning}
use Rattle.ae_num.proofs.PairLaws.{factor_head}
use Rattle.ae_rules.specs.Lines.{IsFloor}
use Rattle.ae_rows.specs.Rows.{combination, factor_at, IsLower, IsUpper}
use Rattle.ae_rows.specs.Rows.IsCovered.{multiple}
use Rattle.ae_rows.proofs.Choosing.{positive_one}
use Rattle.ae_journal.specs.Values.{Sum, leaf_factor, scaled, sum_of_lin}
use Rattle.ae_journal.specs.Sides.{AreWhole, IsRounded}
use Rattle.ae_journal.specs.Standing.{Setting, IsWholeRow}
use Rattle.ae_journal.specs.Standing.IsWholeRow.{of_inequality, of_combine, of_rounding}
use Rattle.ae_journal.specs.Rows.{add_sums, IsMultiple, IsRow, MayCombine}
use Rattle.ae_journal.specs.Rows.IsRow.{of_literal, of_line, of_whole}
use Rattle.ae_journal.specs.Points.{NoneLeft}
use Rattle.ae_journal.specs.Licences.{IsLicensed}
use Rattle.ae_journal.specs.declared.lines.Line.{Line}
use Rattle.ae_journal.specs.declared.answers.WideAt.{WideAt}
use Rattle.ae_journal.proofs.Splits.{all_contained}
use Rattle.ae_evaluation.proofs.Sums.{factor-settled, factor-append, factor-scaled, settles, one_sum}
use Rattle.ae_combine_lines.specs.Laws.{IsSure}
use Rattle.ae_combine_lines.specs.Laws.IsSure.{of_literal as sure_literal, of_line as sure_line}
use Rattle.ae_combine_lines.proofs.Sums.{factor_in_sum, combined_sum}
use Rattle.ae_ineq.specs.Sums.{IsZero}
use Rattle.ae_ineq.specs.Widths.{IsPointWide}
use Rattle.ae_bounds.specs.declared.rows.Row.{Row}
use Rattle.ae_bounds.specs.declared.rows.Origin.{Origin}
use Rattle.ae_bounds.specs.declared.rows.Origin.TheVariants.{Assumed, Combined}
use Rattle.ae_bounds.specs.Rounding.{HasForm}
use Rattle.ae_bounds.specs.Rounding.HasForm.{own, assumed}
use Rattle.ae_bounds.specs.Combinations.{IsExtended, IsDone, IsWideIn}
use Rattle.ae_bounds.proofs.Zeros.{nothing_times}
use Rattle.ae_bound_lines.proofs.Legal.{licensed}
use Rattle.ae_bound_points.specs.Points.{IsNonzeroRow}
use Rattle.ae_bound_widths.specs.Laws.{AreAllKept}
use Rattle.ae_bound_widths.specs.Fractions.{AreInStep, AreOverFractions, AreAssumed, AreFinished}
use Rattle.ae_bound_widths.proofs.InStep.{name_of_one, plain_form, steps_kept}
use Rattle.ae_bound_widths.proofs.Kept.{kept_licensed}

-- ---- sums of forms
added_at : (y : ℚ) (h : Sum) (k : ℕ) → leaf_factor (add_sums y h zero_ℚ h).parts k ≡ y *ℚ leaf_factor h.parts k
added_at y h k =
    factor-settled (scaled y h.parts ++ scaled zero_ℚ h.parts) k ∙ factor-append (scaled y h.parts) (scaled zero_ℚ h.parts) k
    ∙ (λ i. factor-scaled y h.parts k i +ℚ factor-scaled zero_ℚ h.parts k i) ∙ ap (λ t. y *ℚ leaf_factor h.parts k +ℚ t) (zero_mul_q (leaf_factor h.parts k)) ∙ add_zero_q (y *ℚ leaf_factor h.parts k)

-- a form's sum is a positive multiple of another's where the form is
pub sum_multiple : (f h : Lin) (y : ℚ) → is_positive y ≡ true → SameForm ℕ_discrete (scale y (meaning h)) (meaning f) → IsMultiple (sum_of_lin f) (sum_of_lin h)
sum_multiple f h y p s =
    let parts : (sum_of_lin f).parts ≡ (add_sums y (sum_of_lin h) zero_ℚ (sum_of_lin h)).parts =
    one_sum (sum_of_lin f).parts (add_sums y (sum_of_lin h) zero_ℚ (sum_of_lin h)).parts (settles (meaning f).parts) (settles (scaled y (sum_of_lin h).parts ++ scaled zero_ℚ (sum_of_lin h).parts))
    (λ k. factor_in_sum f k ∙ sym (s.factors k) ∙ factor_in-scale ℕ_discrete y (meaning h).parts k ∙ ap (λ t. y *ℚ t) (sym (factor_in_sum h k)) ∙ sym (added_at y (sum_of_lin h) k)) in
    let constant : (sum_of_lin f).constant ≡ y *ℚ (sum_of_lin h).constant +ℚ zero_ℚ *ℚ (sum_of_lin h).constant =
    sym s.constants ∙ sym (ap (λ t. y *ℚ (meaning h).constant +ℚ t) (zero_mul_q (meaning h).constant) ∙ add_zero_q (y *ℚ (meaning h).constant)) in
    (y, p, λ i. record { parts = parts i; constant = constant i })

-- forms with one sum have the same factors
pub same_factor : (f h : Lin) (k : ℕ) → sum_of_lin f ≡ sum_of_lin h → factor_at k (meaning f) ≡ factor_at k (meaning h)
same_factor f h k e = sym (factor_in_sum f k) ∙ ap (λ (s : Sum). leaf_factor s.parts k) e ∙ factor_in_sum h k

-- the first part has a factor
pub first_some : (f : Lin) → IsNormal f → (p : Part) (ps : List Part) → f.parts ≡ p ∷ ps → factor_at p.key (meaning f) ≢ zero_ℚ
first_some f n p ps e z =
    let nonzero : AllByRecursion (λ (q : Part). q.factor ≢ pos 0) (p ∷ ps) = subst (AllByRecursion (λ (q : Part). q.factor ≢ pos 0)) e n.nonzero in
    let at : factor_of f.parts p.key ≡ p.factor = ap (λ (qs : List Part). factor_of qs p.key) e ∙ factor_head p ps in
    nonzero.0 (sym at ∙ ratio_is_zero (factor_of f.parts p.key) f.den n.positive (sym (factor_meaning f p.key n.rising) ∙ z))

-- a form that has a name of sort `int` alone has one such name
pub whole_name : (x : Setting) (f : Lin) → IsNormal f → AreWhole x.problem.signature x.names f → f.parts ≢ []
    → (k : ℕ) × (t : Term) × (factor_at k (meaning f) ≢ zero_ℚ) × (slice_get x.names k ≡ Some t) × (sort_of x.problem.signature t ≡ Some Int)
whole_name x f n w m = by_parts f.parts refl
  where
    by_parts : (ps : List Part) → f.parts ≡ ps → (k : ℕ) × (t : Term) × (factor_at k (meaning f) ≢ zero_ℚ) × (slice_get x.names k ≡ Some t) × (sort_of x.problem.signature t ≡ Some Int)
    by_parts [] e = absurd (m e)
    by_parts (p ∷ ps) e =
        let all : AllByRecursion (λ (q : Part). (t : Term) × (slice_get x.names q.key ≡ Some t) × (sort_of x.problem.signature t ≡ Some Int)) (p ∷ ps) =
        subst (AllByRecursion (λ (q : Part). (t : Term) × (slice_get x.names q.key ≡ Some t) × (sort_of x.problem.signature t ≡ Some Int))) e w in
        (p.key, (all.0).0, first_some f n p ps e, (all.0).1, (all.0).2)

-- a number isn't rounded
not_floored : (z r : ℤ) (d : ℕ) → d ≡ 0 → IsFloor z d r → ⊥
not_floored z r d e f =
    let g = subst (λ n. IsFloor z n r) e f in
    let a = g.at_least in
    let b = g.less in
    omega (arith, ints, a, b)

pub number_rounded : (strict : Bool) (f r : Lin) → f.parts ≡ [] → IsRounded strict f r → ⊥
number_rounded strict f r e d = not_floored _ r.constant d.divisor none d.floor
  where
    greatest : IsCommonDivisor [] d.divisor
    greatest = subst (λ (ps : List Part). IsCommonDivisor (map (λ q. unsigned_abs q.factor) ps) d.divisor) e d.greatest

    none : d.divisor ≡ 0
    none = eq-zero_of_zero-dvd (greatest.1 0 tt)

module _ (x : Setting) (rows : List Row) (js : List Line) (step : AreInStep x js rows) (over : AreOverFractions x rows) (done : AreFinished rows) (given : AreAssumed x js rows) where
  normal_row : (r : Row) → Contains rows r → IsNormal r.lin
  normal_row r c = all_contained (λ (t : Row). IsNormal t.lin) rows r done.normal c

  -- no row of the journal is over integers
  none_whole : (strict : Bool) (f : Lin) → IsWholeRow x js strict f → ⊥
  none_whole _ _ (of_inequality _ l s t b f m e i n d) = let a = given.may l s t b m e in true_false (sym (a.3 i) ∙ over.real a.0 a.1)
  none_whole _ _ (of_combine _ before after b f e o some w) =
      let a = step.lines before after b f e o in
      let n = whole_name x f (subst IsNormal a.2 (normal_row a.0 a.1)) w some in
      over.apart a.0 n.0 n.1 a.1 (λ z. n.2 (ap (λ (h : Lin). factor_at n.0 (meaning h)) (sym a.2) ∙ z)) n.3 n.4
  none_whole _ _ (of_rounding _ b f r w d n) = none_whole b f w

  -- each row of the journal is one of these
  member : (strict : Bool) (g : Sum) → IsRow x js strict g → (r : Row) × Contains rows r × (sum_of_lin r.lin ≡ g)
  member _ _ (of_literal l s t m e) = let a = given.may l s t _ m e in (a.0, a.1, a.2)
  member _ _ (of_line before after f e o) = let a = step.lines before after _ f e o in (a.0, a.1, ap sum_of_lin a.2)
  member _ _ (of_whole f w) = absurd (none_whole _ f w)

  -- a form that counts is a row's own
  own_form : (r : Row) (l : Lin) → Contains rows r → HasForm r l → l ≡ r.lin
  own_form r _ c (own d m) = refl
  own_form r _ c (assumed d tag u e f) = absurd (true_false (sym (done.rounded r u c f).integral ∙ over.real r c))

  -- each row that isn't 0 is surely there
  sure_row : (r : Row) → Contains rows r → ¬ IsZero (meaning r.lin) → IsSure x js (sum_of_lin r.lin)
  sure_row r c z = by_origin r.from refl
    where
      by_origin : (o : Origin) → r.from ≡ o → IsSure x js (sum_of_lin r.lin)
      by_origin (Assumed tag) e = given.sure r tag c e
      by_origin (Combined lower upper) e = let n = step.noted r lower upper c e z in sure_line n.0 n.1 r.strict r.lin n.2 n.3

  module _ (strict : Bool) (f : Lin) (m : MayCombine x js strict f) where
    one : (r : Row) × Contains rows r × (sum_of_lin r.lin ≡ m.combination.one)
    one = member m.combination.strict_one m.combination.one m.combination.combined.first

    other : (r : Row) × Contains rows r × (sum_of_lin r.lin ≡ m.combination.other)
    other = member m.combination.strict_other m.combination.other m.combination.combined.second

    abbrev key : ℕ
    key = m.combination.key

    factor_one : (k : ℕ) → factor_at k (meaning (one.0).lin) ≡ leaf_factor m.combination.one.parts k
    factor_one k = sym (factor_in_sum (one.0).lin k) ∙ ap (λ (s : Sum). leaf_factor s.parts k) one.2

    factor_other : (k : ℕ) → factor_at k (meaning (other.0).lin) ≡ leaf_factor m.combination.other.parts k
    factor_other k = sym (factor_in_sum (other.0).lin k) ∙ ap (λ (s : Sum). leaf_factor s.parts k) other.2

    lower : IsLower key (meaning (one.0).lin)
    lower = record {
      largest = record { absent = λ k h. factor_one k ∙ (m.combination.combined.largest.0).2 k (omega (arith, h)) };
      sign = ap is_positive (factor_one key) ∙ m.combination.combined.signs.0;
    }

    upper : IsUpper key (meaning (other.0).lin)
    upper = record {
      largest = record { absent = λ k h. factor_other k ∙ (m.combination.combined.largest.1).2 k (omega (arith, h)) };
      sign = ap (λ t. is_positive (neg_ℚ t)) (factor_other key) ∙ m.combination.combined.signs.1;
    }

    made : IsDone rows one.0 other.0 key
    made = done.closed key one.0 other.0 one.1 other.1 lower upper

    form_is : made.row.lin ≡ made.of.form
    form_is = plain_form one.0 other.0 made.row key made.of (over.real one.0 one.1)

    same : SameMeaning (meaning made.row.lin) (combination key (meaning (one.0).lin) (meaning (other.0).lin))
    same = subst (λ (l : Lin). SameMeaning (meaning l) (combination key (meaning (one.0).lin) (meaning (other.0).lin))) (sym form_is) made.of.same

    plain_is : sum_of_lin made.row.lin ≡ m.plain
    plain_is =
        combined_sum key (one.0).lin (other.0).lin made.row.lin same
        ∙ (λ i. add_sums (neg_ℚ (leaf_factor (other.2 i).parts key)) (one.2 i) (leaf_factor (one.2 i).parts key) (other.2 i)) ∙ sym m.combination.is

    abbrev there_row : Row
    there_row = made.held.there.row

    there_is : made.held.there.form ≡ there_row.lin
    there_is = own_form there_row made.held.there.form made.held.there.among made.held.there.of

    there_same : SameForm ℕ_discrete (scale made.held.there.times (meaning there_row.lin)) (meaning made.row.lin)
    there_same = subst (λ (l : Lin). SameForm ℕ_discrete (scale made.held.there.times (meaning l)) (meaning made.row.lin)) there_is made.held.there.same

    there_some : ¬ IsZero (meaning there_row.lin)
    there_some z =
        let k = nothing_times (meaning there_row.lin) (meaning made.row.lin) (record { times = made.held.there.times; positive = made.held.there.positive; same = there_same })
        (record { factors = λ j. z.over.absent j (omega arith); constant = z.constant }) in
        done.loose (made.held.zero (record { over = record { absent = λ j l. k.factors j }; constant = k.constant }))

    there_multiple : IsMultiple (sum_of_lin made.row.lin) (sum_of_lin there_row.lin)
    there_multiple = sum_multiple made.row.lin there_row.lin made.held.there.times made.held.there.positive there_same

    -- the combination as it is was noted, or is a multiple of a row
    not_plain : sum_of_lin f ≡ m.plain → ⊥
    not_plain e = by_sure (sum_of_lin there_row.lin) (sure_row there_row made.held.there.among there_some) (subst (λ (s : Sum). IsMultiple s (sum_of_lin there_row.lin)) (plain_is ∙ sym e) there_multiple)
      where
        by_sure : (g : Sum) → IsSure x js g → IsMultiple (sum_of_lin f) g → ⊥
        by_sure _ (sure_literal l s t b h d) u = m.no_literal l s t b h d u
        by_sure _ (sure_line before after b h d o) u = m.no_line before after b h d o u

    -- and it isn't one over integers
    not_rounded : (h : Lin) → IsNormal h → sum_of_lin h ≡ m.plain → AreWhole x.problem.signature x.names h → IsRounded m.was_strict h f → ⊥
    not_rounded h n e w d =
        let k = whole_name x h n w (λ z. number_rounded m.was_strict h f z d) in
        let at : factor_at k.0 (combination key (meaning (one.0).lin) (meaning (other.0).lin)) ≢ zero_ℚ = λ z. k.2 (same_factor h made.row.lin k.0 (e ∙ sym plain_is) ∙ same.factors k.0 ∙ z) in
        elim (name_of_one key (meaning (one.0).lin) (meaning (other.0).lin) k.0 at) [
          | inl a ↦ over.apart one.0 k.0 k.1 one.1 a k.3 k.4
          | inr b ↦ over.apart other.0 k.0 k.1 other.1 b k.3 k.4
        ]

    left : ⊥
    left = elim m.is [ inl a ↦ not_plain a.1 | inr b ↦ not_rounded b.0 b.1 b.2 b.3 b.4 ]

  pub none_left : NoneLeft x js
  none_left strict f m = left strict f m

  -- each row that stands is kept
  kept : AreAllKept x js rows
  kept n strict g s l =
      let a = member strict g s in
      let some : (meaning (a.0).lin).parts ≢ [] = λ z. l.1 (sym (ap (λ (u : Sum). leaf_factor u.parts n) a.2) ∙ factor_in_sum (a.0).lin n ∙ ap (λ (ps : List (ℕ × ℚ)). leaf_factor ps n) z) in
      multiple one_ℚ positive_one (meaning (a.0).lin) (record { row = a.0; among = a.1; is = refl; names = λ z. some (ap (map (λ (p : Part). (p.key, ratio p.factor (a.0).lin.den))) z) })
      (subst (λ (u : Sum). SameForm ℕ_discrete (scale one_ℚ u) (meaning (a.0).lin)) a.2
      (record {
        factors = λ k. factor_in-scale ℕ_discrete one_ℚ (sum_of_lin (a.0).lin).parts k ∙ one_mul_q (leaf_factor (sum_of_lin (a.0).lin).parts k) ∙ factor_in_sum (a.0).lin k;
        constants = one_mul_q (meaning (a.0).lin).constant;
      }))

  pub widths_licensed : (w : WideAt) → IsPointWide (IsNonzeroRow rows) w → IsLicensed x js w
  widths_licensed w p = kept_licensed x js rows done.normal w step.standing kept none_left p

-- a width of the combinations of rows over fractions, or of the making of their point, is licensed
pub solved_licensed : (x : Setting) (rows rs : List Row) (js ks : List Line) (w : WideAt) → IsExtended rows js rs ks → IsWideIn rs w ⊎ (IsPointWide (IsNonzeroRow rs) w × AreFinished rs)
    → AreInStep x js rows → AreOverFractions x rows → AreAssumed x ks rs → IsLicensed x ks w
solved_licensed x rows rs js ks w e (inl d) step over given = licensed x rs ks w ((steps_kept x rows rs js ks step over e).0).standing d
solved_licensed x rows rs js ks w e (inr p) step over given = (let h = steps_kept x rows rs js ks step over e in widths_licensed x rs ks h.0 h.1 p.1 given w p.0)
