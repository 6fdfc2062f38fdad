-- Rows that agree with a journal, and one combination more.
use Rattle.std.specs.Prelude.{ℕ, Bool, true, ◌&&◌, pos, List, [], ◌∷◌, ◌++◌, ◌≡◌, ◌≢◌}
use Rattle.std.specs.List.{Contains}
use Rattle.std.proofs.Common.{refl, sym, ap, ◌∙◌, subst, inl, inr}
use Rattle.std.proofs.lemmas.Bool.{and_parts}
use Rattle.std.proofs.lemmas.List.Elements.{Contains-append_left, Contains-append_right, Contains-append_cases}
use Rattle.ae_base.proofs.AllOf.{all_both}
use Rattle.ae_base.proofs.Tests.{true_false}
use Rattle.ae_math.specs.Fractions.{ℚ, zero_ℚ, neg_ℚ, ◌*ℚ◌, is_positive}
use Rattle.ae_math.specs.Forms.{Form}
use Rattle.ae_math.proofs.FractionLaws.{mul_zero_q, neg_zero_q}
use Rattle.ae_math.proofs.FractionOrder.{positive_zero}
use Rattle.ae_math.proofs.Wholes.{ratio_is_zero}
use Rattle.ae_core.specs.declared.terms.Term.{Term}
use Rattle.ae_num.specs.declared.forms.Part.{Part}
use Rattle.ae_num.specs.declared.forms.Lin.{Lin}
use Rattle.ae_num.specs.Forms.{meaning, factor_of, IsNormal}
use Rattle.ae_num.proofs.MeaningLaws.{factor_meaning}
use Rattle.ae_rows.specs.Rows.{factor_at, combination, IsLower, IsUpper}
use Rattle.ae_rows.proofs.Elimination.{positive_nonzero}
use Rattle.ae_journal.specs.Values.{sum_of_lin, sum_in, minus_val}
use Rattle.ae_journal.specs.Sides.{AreWhole}
use Rattle.ae_journal.specs.Standing.{Setting, IsWholeRow, value_now}
use Rattle.ae_journal.specs.Standing.IsWholeRow.{of_inequality, of_combine, of_rounding}
use Rattle.ae_journal.proofs.Growing.{further}
use Rattle.ae_journal.specs.declared.lines.Line.{Line}
use Rattle.ae_journal.specs.declared.lines.Line.TheVariants as line
use Rattle.ae_journal.proofs.Splits.{contains_here, contains_one, contains_at}
use Rattle.ae_combine_lines.proofs.Lists.{only_more}
use Rattle.ae_combine_lines.proofs.Standing.{row_stays, may_stay, own_row, surely_less}
use Rattle.ae_combine_lines.proofs.Values.{values_stay}
use Rattle.ae_rounding.proofs.Whole.{own_factors}
use Rattle.ae_ineq.specs.Sums.{IsZero}
use Rattle.ae_bounds.specs.declared.rows.Row.{Row}
use Rattle.ae_bounds.specs.declared.rows.Origin.{Origin}
use Rattle.ae_bounds.specs.declared.rows.Origin.TheVariants.{Assumed, Combined}
use Rattle.ae_bounds.specs.Combinations.{IsCombined, IsExtended}
use Rattle.ae_bounds.specs.Combinations.IsExtended.{as_it_was, one_more, zero_more}
use Rattle.ae_bound_lines.proofs.Legal.{standing_more, extended}
use Rattle.ae_bound_points.proofs.Closed.{combination_weaker}
use Rattle.ae_bound_widths.specs.Fractions.{IsNoted}
use Rattle.ae_bound_widths.proofs.InStep.{name_of_one, line_before, noted_more}
use Rattle.ae_bound_rest.specs.Rest.{counted}
use Rattle.ae_bound_rest.specs.Laws.{IsWholeName, IsStanding, IsSorted, AreAgreed}
use Rattle.ae_bound_rest.proofs.Above.{weaker_factor}

-- ---- sorts of names
-- a row whose sort is that of its names has names of sort `int` alone, where it has that sort
pub all_whole : (x : Setting) (l : Lin) → IsNormal l → ((k : ℕ) → factor_at k (meaning l) ≢ zero_ℚ → IsWholeName x k) → AreWhole x.problem.signature x.names l
all_whole x l n each =
    all_both (λ (p : Part). factor_of l.parts p.key ≡ p.factor) (λ (p : Part). p.factor ≢ pos 0) (λ (p : Part). IsWholeName x p.key)
    (λ p a b. each p.key (λ z. b (sym a ∙ ratio_is_zero (factor_of l.parts p.key) l.den n.positive (sym (factor_meaning l p.key n.rising) ∙ z)))) l.parts (own_factors l.parts n.rising) n.nonzero

negative_some : (c : ℚ) → is_positive (neg_ℚ c) ≡ true → c ≢ zero_ℚ
negative_some c p z = true_false (sym p ∙ ap (λ y. is_positive (neg_ℚ y)) z ∙ ap is_positive neg_zero_q ∙ positive_zero)

-- two rows with a name in common have one sort
pub one_sort : (x : Setting) (p q : Row) (n : ℕ) → IsSorted x p → IsSorted x q → IsLower n (meaning p.lin) → IsUpper n (meaning q.lin) → p.integral ≡ true → q.integral ≡ true
one_sort x p q n a b low up e = b.integral n (negative_some (factor_at n (meaning q.lin)) up.sign) (a.whole n (positive_nonzero (factor_at n (meaning p.lin)) low.sign) e)

pub other_sort : (x : Setting) (p q : Row) (n : ℕ) → IsSorted x p → IsSorted x q → IsLower n (meaning p.lin) → IsUpper n (meaning q.lin) → q.integral ≡ true → p.integral ≡ true
other_sort x p q n a b low up e = a.integral n (positive_nonzero (factor_at n (meaning p.lin)) low.sign) (b.whole n (negative_some (factor_at n (meaning q.lin)) up.sign) e)

-- a row whose names are among those of the combination of two rows
pub combined_sorted : (x : Setting) (p q r : Row) (n : ℕ) → IsSorted x p → IsSorted x q → IsLower n (meaning p.lin) → IsUpper n (meaning q.lin) → r.integral ≡ p.integral && q.integral
    → ((k : ℕ) → factor_at k (meaning r.lin) ≢ zero_ℚ → factor_at k (combination n (meaning p.lin) (meaning q.lin)) ≢ zero_ℚ) → IsSorted x r
combined_sorted x p q r n a b low up e names = record {
  whole = λ k m i. let h = and_parts p.integral q.integral (sym e ∙ i) in
      elim (name_of_one n (meaning p.lin) (meaning q.lin) k (names k m)) [ inl c ↦ a.whole k c h.0 | inr c ↦ b.whole k c h.1 ];
  integral = λ k m w. elim (name_of_one n (meaning p.lin) (meaning q.lin) k (names k m)) [
    | inl c ↦ (let i = a.integral k c w in e ∙ (λ j. i j && one_sort x p q n a b low up i j))
    | inr c ↦ (let i = b.integral k c w in e ∙ (λ j. other_sort x p q n a b low up i j && i j))
  ];
}

-- a name of a form is one of each form that it is above
pub names_weaker : (f g : Form ℕ) (t : ℚ) (k : ℕ) → t *ℚ factor_at k f ≡ factor_at k g → factor_at k g ≢ zero_ℚ → factor_at k f ≢ zero_ℚ
names_weaker f g t k e m z = m (sym e ∙ ap (λ y. t *ℚ y) z ∙ mul_zero_q t)

kept_sorted : (x : Setting) (rows : List Row) (r : Row) → ((s : Row) → Contains rows s → IsSorted x s) → IsCombined rows r → IsSorted x r
kept_sorted x rows r all c =
    let w = combination_weaker c.first c.second r c.name c.of in
    combined_sorted x c.first c.second r c.name (all c.first (contains_at rows c.lower c.first c.opposed.first_at)) (all c.second (contains_at rows c.upper c.second c.opposed.second_at)) c.opposed.below c.opposed.above
    c.of.sort (λ k m. names_weaker (combination c.name (meaning c.first.lin) (meaning c.second.lin)) (meaning r.lin) w.times k (weaker_factor (combination c.name (meaning c.first.lin) (meaning c.second.lin)) (meaning r.lin) w k) m)

-- ---- one line more
same_difference : (x : Setting) (js : List Line) (strict : Bool) (f : Lin) (s t : Term)
    → sum_in (minus_val (value_now x js s) (value_now x js t)) ≡ sum_in (minus_val (value_now x (js ++ line.Combine strict f ∷ []) s) (value_now x (js ++ line.Combine strict f ∷ []) t))
same_difference x js strict f s t = λ i. sum_in (minus_val (sym (values_stay x js strict f s) i) (sym (values_stay x js strict f t) i))

-- a row over integers still stands
still_whole : (x : Setting) (js : List Line) (strict : Bool) (f : Lin) (b : Bool) (g : Lin) → IsWholeRow x js b g → IsWholeRow x (js ++ line.Combine strict f ∷ []) b g
still_whole x js strict f _ _ (of_inequality _ l s t b g m e i n d) = of_inequality (js ++ line.Combine strict f ∷ []) l s t b g (may_stay x js strict f l m) e i n (d ∙ same_difference x js strict f s t)
still_whole x js strict f _ _ (of_combine _ before after b g e o n w) =
    of_combine (js ++ line.Combine strict f ∷ []) before (after ++ line.Combine strict f ∷ []) b g (further js before (line.Combine b g ∷ after) (line.Combine strict f ∷ []) e) (only_more after strict f o) n w
still_whole x js strict f _ _ (of_rounding _ b g r w d n) = of_rounding (js ++ line.Combine strict f ∷ []) b g r (still_whole x js strict f b g w) d n

pub standing_stays : (x : Setting) (js : List Line) (strict : Bool) (f : Lin) (r : Row) → IsStanding x js r → IsStanding x (js ++ line.Combine strict f ∷ []) r
standing_stays x js strict f r h = record {
  stands = elim h.stands [ inl o ↦ inl o | inr s ↦ inr (row_stays x js strict f r.strict (sum_of_lin r.lin) s) ];
  whole = λ i m. still_whole x js strict f r.strict r.lin (h.whole i m);
}

-- the line's own row
pub own_standing : (x : Setting) (js : List Line) (r : Row) → IsNormal r.lin → IsSorted x r → IsStanding x (js ++ line.Combine r.strict r.lin ∷ []) r
own_standing x js r n s = record {
  stands = inr (own_row x js r.strict r.lin);
  whole = λ i m. of_combine (js ++ line.Combine r.strict r.lin ∷ []) js [] r.strict r.lin refl tt m (all_whole x r.lin n (λ k h. s.whole k h i));
}

not_assumed : (r s : Row) (lower upper tag : ℕ) → r.from ≡ Combined lower upper → r ≡ s → s.from ≡ Assumed tag → ⊥
not_assumed r s lower upper tag e f g = let z : ◌≡◌ {A = Origin} (Combined lower upper) (Assumed tag) = sym e ∙ ap (λ (y : Row). y.from) f ∙ g in cc

module _ (x : Setting) (js : List Line) (rows : List Row) (a : AreAgreed x js rows) (r : Row) (c : IsCombined rows r) where
  sorted_more : (s : Row) → Contains (rows ++ r ∷ []) s → IsSorted x s
  sorted_more s h = elim (Contains-append_cases rows (r ∷ []) s h) [ inl d ↦ a.sorted s d | inr d ↦ subst (IsSorted x) (contains_one r s d) (kept_sorted x rows r a.sorted c) ]

  was_more : (s : Row) (tag : ℕ) → Contains (rows ++ r ∷ []) s → s.from ≡ Assumed tag → Contains rows s
  was_more s tag h e = elim (Contains-append_cases rows (r ∷ []) s h) [ inl d ↦ d | inr d ↦ absurd (not_assumed r s c.lower c.upper tag c.from (contains_one r s d) e) ]

  pub agreed_more : AreAgreed x (js ++ line.Combine r.strict r.lin ∷ []) (rows ++ r ∷ [])
  agreed_more = record {
    standing = standing_more x js rows a.standing r c;
    was = λ s tag h e. standing_stays x js r.strict r.lin (counted s) (a.was s tag (was_more s tag h e) e);
    sorted = sorted_more;
    literals = λ l s t b h e. let g = a.literals l s t b (surely_less x js r.strict r.lin l h) e in
        (g.0, g.1, Contains-append_left rows (r ∷ []) g.0 g.2, g.3, g.4, g.5 ∙ same_difference x js r.strict r.lin s t);
    lines = λ before after b h e o. elim (line_before x js rows r.strict r.lin before after b h e o) [
      | inl k ↦ (r, c.lower, c.upper, Contains-append_right rows (r ∷ []) r (contains_here r []), c.from, k.0, k.1)
      | inr k ↦ (let g = a.lines before k.0 b h k.1 k.2 in (g.0, g.1, g.2, Contains-append_left rows (r ∷ []) g.0 g.3, g.4, g.5, g.6))
    ];
    noted = λ s lower upper h f z. elim (Contains-append_cases rows (r ∷ []) s h) [
      | inl d ↦ noted_more x js rows r.strict r.lin s (a.noted s lower upper d f z)
      | inr d ↦ subst (λ (y : Row). IsNoted (js ++ line.Combine r.strict r.lin ∷ []) y) (contains_one r s d) (js, [], refl, tt)
    ];
  }

  pub agreed_zero : IsZero (meaning r.lin) → AreAgreed x js (rows ++ r ∷ [])
  agreed_zero zero = record {
    standing = (extended x 0 rows (rows ++ r ∷ []) js js a.standing (zero_more rows js r as_it_was c zero)).1;
    was = λ s tag h e. a.was s tag (was_more s tag h e) e;
    sorted = sorted_more;
    literals = λ l s t b h e. let g = a.literals l s t b h e in (g.0, g.1, Contains-append_left rows (r ∷ []) g.0 g.2, g.3, g.4, g.5);
    lines = λ before after b h e o. let g = a.lines before after b h e o in (g.0, g.1, g.2, Contains-append_left rows (r ∷ []) g.0 g.3, g.4, g.5, g.6);
    noted = λ s lower upper h f z. elim (Contains-append_cases rows (r ∷ []) s h) [
      | inl d ↦ a.noted s lower upper d f z
      | inr d ↦ absurd (z (subst (λ (u : Row). IsZero (meaning u.lin)) (contains_one r s d) zero))
    ];
  }

agreed_by : (x : Setting) (rows : List Row) (js : List Line) → AreAgreed x js rows → (rs : List Row) (ks : List Line) → IsExtended rows js rs ks → AreAgreed x ks rs
agreed_by x rows js a _ _ as_it_was = a
agreed_by x rows js a _ _ (one_more rs ks r e c none) = agreed_more x ks rs (agreed_by x rows js a rs ks e) r c
agreed_by x rows js a _ _ (zero_more rs ks r e c zero) = agreed_zero x ks rs (agreed_by x rows js a rs ks e) r c zero

pub agreed_kept : (x : Setting) (rows rs : List Row) (js ks : List Line) → AreAgreed x js rows → IsExtended rows js rs ks → AreAgreed x ks rs
agreed_kept x rows rs js ks a e = agreed_by x rows js a rs ks e
