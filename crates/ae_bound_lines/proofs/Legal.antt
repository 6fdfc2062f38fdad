-- The lines of combinations are legal, and the rows stand after them.
use Rattle.std.specs.Prelude.{ℕ, ◌<◌, Bool, true, ◌||◌, List, [], ◌∷◌, ◌++◌, ◌≡◌, ◌≢◌, ◌⊎◌, length, slice_get, Some}
use Rattle.std.specs.List.{Contains}
use Rattle.std.proofs.Common.{arith, sym, ap, ◌∙◌, subst, inl, inr, append_assoc}
use Rattle.std.proofs.lemmas.Bool.{and_parts}
use Rattle.std.proofs.lemmas.List.{append-nil}
use Rattle.std.proofs.lemmas.List.Elements.{Contains-append_left, Contains-append_right}
use native.Mathlib.Decide.{dec_lt}
use Rattle.ae_base.proofs.AllOf.{all_append, all_weaker}
use Rattle.ae_base.proofs.Tests.{true_false}
use Rattle.ae_math.specs.Fractions.{is_positive}
use Rattle.ae_math.proofs.FractionOrder.{positive_zero}
use Rattle.ae_num.specs.declared.forms.Lin.{Lin}
use Rattle.ae_num.specs.Forms.{meaning, SameMeaning, IsNormal, first_wide}
use Rattle.ae_rows.specs.Rows.{combination, IsOver, IsLower, IsUpper}
use Rattle.ae_rows.proofs.Elimination.{over_combination}
use Rattle.ae_journal.specs.Values.{Sum, sum_of_lin}
use Rattle.ae_core.specs.Sorts.{sort_of}
use Rattle.ae_core.specs.declared.terms.Term.{Term}
use Rattle.ae_core.specs.declared.terms.Sort.{Int}
use Rattle.ae_journal.specs.Sides.{AreWhole}
use Rattle.ae_journal.specs.Standing.{Setting, IsWholeRow}
use Rattle.ae_journal.specs.Standing.IsWholeRow.{of_rounding}
use Rattle.ae_journal.specs.Rows.{IsRow, IsMultiple, MayCombine}
use Rattle.ae_journal.specs.Rows.IsRow.{of_whole}
use Rattle.ae_journal.specs.Legal.{IsLegalLine, AreLegal}
use Rattle.ae_journal.specs.Licences.{stated_steps, IsLicensedStep, IsLicensed}
use Rattle.ae_journal.specs.Licences.IsLicensedStep.{a_combine}
use Rattle.ae_journal.specs.declared.answers.NumStep.{NumStep}
use Rattle.ae_journal.specs.declared.answers.NumStep.TheVariants.{Combine}
use Rattle.ae_journal.specs.declared.answers.WideAt.{WideAt}
use Rattle.ae_journal.specs.declared.lines.Line.{Line}
use Rattle.ae_journal.specs.declared.lines.Line.TheVariants as line
use Rattle.ae_journal.proofs.Splits.{all_contained, contains_here, contains_at}
use Rattle.ae_combine_lines.specs.Laws.{IsSure, AreOpposed}
use Rattle.ae_combine_lines.proofs.Legal.{legal, are_combined}
use Rattle.ae_combine_lines.proofs.Standing.{row_stays, own_row, sure_less}
use Rattle.ae_combine_lines.proofs.Sums.{multiple_form}
use Rattle.ae_bounds.specs.declared.rows.Row.{Row}
use Rattle.ae_bound_lines.specs.Standing.{AreStanding, MayBeAssumed}
use Rattle.ae_rounding.proofs.Legal.{rounded_legal}
use Rattle.ae_rounding.proofs.Whole.{combined_whole, divided_keys}
use Rattle.ae_bounds.specs.Rounding.{IsRowOf, IsAssumed}
use Rattle.ae_bounds.specs.Rounding.IsRowOf.{as_it_is, rounded}
use Rattle.ae_bounds.proofs.OwnForms.{own_combined}
use Rattle.ae_bounds.proofs.Rounded.{rounded_over}
use Rattle.ae_bounds.specs.Combinations.{IsThere, IsCombined, IsExtended, IsWideIn}
use Rattle.ae_bounds.specs.Combinations.IsExtended.{as_it_was, one_more, zero_more}
use Rattle.ae_math.specs.Fractions.{ℚ, zero_ℚ, neg_ℚ}
use Rattle.ae_math.proofs.FractionLaws.{neg_zero_q}
use Rattle.ae_ineq.specs.Sums.{IsZero}
use Rattle.ae_rows.specs.Rows.{factor_at}

pub positive_apart : (y : ℚ) → is_positive y ≡ true → y ≡ zero_ℚ → ⊥
positive_apart y p z = true_false (sym p ∙ ap is_positive z ∙ positive_zero)

-- the largest name of a row is a name
pub named_below : (n m : ℕ) (l : Lin) → IsLower n (meaning l) → IsOver m (meaning l) → n < m
named_below n m l low over = elim (dec_lt n m) [ yes h ↦ h | no h ↦ absurd (positive_apart (factor_at n (meaning l)) low.sign (over.absent n (omega (arith, h)))) ]

module _ (x : Setting) (js : List Line) (rows : List Row) (st : AreStanding x js rows) where
  abbrev Standing : Row → Type 0
  Standing r = IsOver 0 (meaning r.lin) ⊎ IsRow x js r.strict (sum_of_lin r.lin)

  -- a row with a name stands
  stands : (r : Row) → Contains rows r → ¬ IsOver 0 (meaning r.lin) → IsRow x js r.strict (sum_of_lin r.lin)
  stands r c none = elim (all_contained (λ (t : Row). IsOver 0 (meaning t.lin) ⊎ IsRow x js t.strict (sum_of_lin t.lin)) rows r st.stand c) [ inl o ↦ absurd (none o) | inr h ↦ h ]

  abbrev Named : Row → Type 0
  Named r = IsOver (length x.names) (meaning r.lin)

  pub opposed_rows : (n : ℕ) (lower upper : Row) → Contains rows lower → Contains rows upper → IsLower n (meaning lower.lin) → IsUpper n (meaning upper.lin) → AreOpposed x js n lower.strict lower.lin upper.strict upper.lin
  opposed_rows n lower upper c d low up = record {
    first = stands lower c (λ o. positive_apart (factor_at n (meaning lower.lin)) low.sign (o.absent n (omega arith)));
    second = stands upper d (λ o. positive_apart (neg_ℚ (factor_at n (meaning upper.lin))) up.sign (ap neg_ℚ (o.absent n (omega arith)) ∙ neg_zero_q));
    named = named_below n (length x.names) lower.lin low (all_contained (λ (r : Row). IsOver (length x.names) (meaning r.lin)) rows lower st.named c);
    lower = low;
    upper = up;
  }

  no_multiple : (r : Row) → ¬ IsThere rows (meaning r.lin) → (g : Sum) → IsSure x js g → ¬ IsMultiple (sum_of_lin r.lin) g
  no_multiple r none g s m =
      let a = st.all g s in
      let k = multiple_form r.lin a.1 (subst (IsMultiple (sum_of_lin r.lin)) (sym a.4) m) in
      none (record { row = a.0; among = a.2; form = a.1; of = a.3; times = k.0; positive = k.1; same = k.2 })

  abbrev Whole : Row → Type 0
  Whole r = r.integral ≡ true → AreWhole x.problem.signature x.names r.lin

  module _ (r : Row) (c : IsCombined rows r) where
    opposed : AreOpposed x js c.name c.first.strict c.first.lin c.second.strict c.second.lin
    opposed = opposed_rows c.name c.first c.second (contains_at rows c.lower c.first c.opposed.first_at) (contains_at rows c.upper c.second c.opposed.second_at) c.opposed.below c.opposed.above

    -- a combination of sort `int` has such names
    form_whole : r.integral ≡ true → AreWhole x.problem.signature x.names c.of.form
    form_whole e =
        let b = and_parts c.first.integral c.second.integral (sym c.of.sort ∙ e) in
        combined_whole x.problem.signature x.names c.name c.first.lin c.second.lin c.of.form c.of.form_normal c.of.same
        (all_contained Whole rows c.first st.whole (contains_at rows c.lower c.first c.opposed.first_at) b.0)
        (all_contained Whole rows c.second st.whole (contains_at rows c.upper c.second c.opposed.second_at) b.1)

    form_named : IsOver (length x.names) (meaning c.of.form)
    form_named =
        let h : c.name < length x.names = named_below c.name (length x.names) c.first.lin c.opposed.below
        (all_contained Named rows c.first st.named (contains_at rows c.lower c.first c.opposed.first_at)) in
        let over = over_combination c.name (meaning c.first.lin) (meaning c.second.lin) c.opposed.below.largest c.opposed.above.largest in
        record { absent = λ k l. c.of.same.factors k ∙ over.absent k (omega (arith, h, l)) }

    pub legal_line : ¬ IsThere rows (meaning r.lin) → MayCombine x js r.strict r.lin
    legal_line none = by_row c.of.of
      where
        by_row : IsRowOf c.of.form (c.first.strict || c.second.strict) r → MayCombine x js r.strict r.lin
        by_row (as_it_is e s u stays) =
            subst (λ b. MayCombine x js b r.lin) (sym s)
            (legal x js c.name c.first.strict c.second.strict c.first.lin c.second.lin r.lin opposed c.of.normal
            (subst (λ (l : Lin). SameMeaning (meaning l) (combination c.name (meaning c.first.lin) (meaning c.second.lin))) (sym e) c.of.same) (no_multiple r none))
        by_row (rounded i m d s u) =
            subst (λ b. MayCombine x js b r.lin) (sym s)
            (rounded_legal x js c.name c.first.strict c.second.strict c.first.lin c.second.lin c.of.form r.lin opposed c.of.form_normal c.of.same (form_whole i) c.of.normal d (no_multiple r none))

  -- what a row has of the form that it is the row of
  module _ (l : Lin) (strict : Bool) (r : Row) (normal : IsNormal l) (fine : IsNormal r.lin) where
    row_named : IsRowOf l strict r → IsOver (length x.names) (meaning l) → IsOver (length x.names) (meaning r.lin)
    row_named (as_it_is e s u stays) o = subst (λ (k : Lin). IsOver (length x.names) (meaning k)) (sym e) o
    row_named (rounded i m d s u) o = rounded_over strict l r.lin normal m fine d (length x.names) o

    row_whole : IsRowOf l strict r → (r.integral ≡ true → AreWhole x.problem.signature x.names l) → r.integral ≡ true → AreWhole x.problem.signature x.names r.lin
    row_whole (as_it_is e s u stays) w i = subst (AreWhole x.problem.signature x.names) (sym e) (w i)
    row_whole (rounded j m d s u) w i = divided_keys (λ k. (t : Term) × (slice_get x.names k ≡ Some t) × (sort_of x.problem.signature t ≡ Some Int)) d.divisor l.parts r.lin.parts d.divided (w i)

    row_stands : IsRowOf l strict r → IsOver 0 (meaning l) ⊎ IsRow x js strict (sum_of_lin l) → (r.integral ≡ true → l.parts ≢ [] → IsWholeRow x js strict l) → IsOver 0 (meaning r.lin) ⊎ IsRow x js r.strict (sum_of_lin r.lin)
    row_stands (as_it_is e s u stays) h w =
        subst (λ b. IsOver 0 (meaning r.lin) ⊎ IsRow x js b (sum_of_lin r.lin)) (sym s) (subst (λ (k : Lin). IsOver 0 (meaning k) ⊎ IsRow x js strict (sum_of_lin k)) (sym e) h)
    row_stands (rounded i m d s u) h w = inr (subst (λ b. IsRow x js b (sum_of_lin r.lin)) (sym s) (of_whole r.lin (of_rounding js strict l r.lin (w i m) d fine)))

  pub standing_more : (r : Row) → IsCombined rows r → AreStanding x (js ++ line.Combine r.strict r.lin ∷ []) (rows ++ r ∷ [])
  standing_more r c = record {
    stand = all_append (λ (t : Row). IsOver 0 (meaning t.lin) ⊎ IsRow x (js ++ line.Combine r.strict r.lin ∷ []) t.strict (sum_of_lin t.lin)) rows (r ∷ [])
        (all_weaker (λ (t : Row). IsOver 0 (meaning t.lin) ⊎ IsRow x js t.strict (sum_of_lin t.lin)) (λ (t : Row). IsOver 0 (meaning t.lin) ⊎ IsRow x (js ++ line.Combine r.strict r.lin ∷ []) t.strict (sum_of_lin t.lin))
        (λ t h. elim h [ inl o ↦ inl o | inr k ↦ inr (row_stays x js r.strict r.lin t.strict (sum_of_lin t.lin) k) ]) rows st.stand)
        (inr (own_row x js r.strict r.lin), tt);
    named = all_append Named rows (r ∷ []) st.named (row_named c.of.form (c.first.strict || c.second.strict) r c.of.form_normal c.of.normal c.of.of (form_named r c), tt);
    whole = all_append Whole rows (r ∷ []) st.whole (row_whole c.of.form (c.first.strict || c.second.strict) r c.of.form_normal c.of.normal c.of.of (form_whole r c), tt);
    all = λ g s. elim (sure_less x js r.strict r.lin g s) [
      | inl h ↦ (let a = st.all g h in (a.0, a.1, Contains-append_left rows (r ∷ []) a.0 a.2, a.3, a.4))
      | inr e ↦ (r, r.lin, Contains-append_right rows (r ∷ []) r (contains_here r []), own_combined r c.lower c.upper c.from, sym e)
    ];
  }

  -- a row more, while the journal is as it was
  standing_with : (r : Row) → IsOver 0 (meaning r.lin) ⊎ IsRow x js r.strict (sum_of_lin r.lin) → Named r → Whole r → AreStanding x js (rows ++ r ∷ [])
  standing_with r a b w = record {
    stand = all_append (λ (t : Row). IsOver 0 (meaning t.lin) ⊎ IsRow x js t.strict (sum_of_lin t.lin)) rows (r ∷ []) st.stand (a, tt);
    named = all_append Named rows (r ∷ []) st.named (b, tt);
    whole = all_append Whole rows (r ∷ []) st.whole (w, tt);
    all = λ g s. let a = st.all g s in (a.0, a.1, Contains-append_left rows (r ∷ []) a.0 a.2, a.3, a.4);
  }

  standing_zero : (r : Row) → IsCombined rows r → IsZero (meaning r.lin) → AreStanding x js (rows ++ r ∷ [])
  standing_zero r c z =
      standing_with r (inl z.over) (record { absent = λ k l. z.over.absent k (omega arith) })
      (row_whole c.of.form (c.first.strict || c.second.strict) r c.of.form_normal c.of.normal c.of.of (form_whole r c))

  pub standing_assumed : (l : Lin) (strict integral : Bool) (tag : ℕ) (r : Row) → IsNormal l → MayBeAssumed x js l strict integral → IsAssumed l strict integral tag r → AreStanding x js (rows ++ r ∷ [])
  standing_assumed l strict integral tag r n m a =
      standing_with r (row_stands l strict r n a.normal a.of m.stands (λ i. m.whole (sym a.sort ∙ i))) (row_named l strict r n a.normal a.of m.named) (row_whole l strict r n a.normal a.of (λ i. m.names (sym a.sort ∙ i)))

pub legal_push : (x : Setting) (bound : ℕ) (before a : List Line) (j : Line) → AreLegal x bound before a → IsLegalLine x bound (before ++ a) j → AreLegal x bound before (a ++ j ∷ [])
legal_push x bound before [] j l h = (subst (λ (w : List Line). IsLegalLine x bound w j) (append-nil before) h, tt)
legal_push x bound before (k ∷ a) j l h = (l.0, legal_push x bound (before ++ k ∷ []) a j l.1 (subst (λ (w : List Line). IsLegalLine x bound w j) (sym (append_assoc before (k ∷ []) a)) h))

extended_by : (x : Setting) (bound : ℕ) (rows : List Row) (js : List Line) → AreStanding x js rows → (rs : List Row) (ks : List Line) → IsExtended rows js rs ks
    → ((added : List Line) × (ks ≡ js ++ added) × AreLegal x bound js added) × AreStanding x ks rs
extended_by x bound rows js st _ _ as_it_was = (([], sym (append-nil js), tt), st)
extended_by x bound rows js st _ _ (one_more rs ks r e c none) =
    let a = extended_by x bound rows js st rs ks e in
    let one : MayCombine x ks r.strict r.lin = legal_line x ks rs a.1 r c none in
    let there : IsLegalLine x bound (js ++ (a.0).0) (line.Combine r.strict r.lin) = subst (λ (w : List Line). MayCombine x w r.strict r.lin) ((a.0).1) one in (
      (
        (a.0).0 ++ line.Combine r.strict r.lin ∷ [],
        ap (λ (w : List Line). w ++ line.Combine r.strict r.lin ∷ []) ((a.0).1) ∙ append_assoc js (a.0).0 (line.Combine r.strict r.lin ∷ []),
        legal_push x bound js (a.0).0 (line.Combine r.strict r.lin) ((a.0).2) there,
      ),
      standing_more x ks rs a.1 r c,
    )
extended_by x bound rows js st _ _ (zero_more rs ks r e c z) =
    let a = extended_by x bound rows js st rs ks e in
    (a.0, standing_zero x ks rs a.1 r c z)

pub extended : (x : Setting) (bound : ℕ) (rows rs : List Row) (js ks : List Line) → AreStanding x js rows → IsExtended rows js rs ks → ((added : List Line) × (ks ≡ js ++ added) × AreLegal x bound js added) × AreStanding x ks rs
extended x bound rows rs js ks st e = extended_by x bound rows js st rs ks e

pub licensed : (x : Setting) (rows : List Row) (js : List Line) (w : WideAt) → AreStanding x js rows → IsWideIn rows w → IsLicensed x js w
licensed x rows js w st d =
    let o = opposed_rows x js rows st d.name d.first d.second (contains_at rows d.lower d.first d.opposed.first_at) (contains_at rows d.upper d.second d.opposed.second_at) d.opposed.below d.opposed.above in
    let c = are_combined x js d.name d.first.strict d.second.strict d.first.lin d.second.lin d.first.lin o in
    let step = a_combine d.first.strict d.second.strict (sum_of_lin d.first.lin) (sum_of_lin d.second.lin) d.name c in
    record {
      normal = (subst IsNormal (sym d.left) d.opposed.normal.0, subst IsNormal (sym d.right) d.opposed.normal.1);
      wide = (λ i. first_wide (stated_steps (d.step i) (d.left i) (d.key i) (d.right i))) ∙ d.wide;
      forms = inl
          (subst (λ (s : NumStep). IsLicensedStep x js s (sum_of_lin w.left) w.key (sum_of_lin w.right)) (sym d.step)
          (subst (λ (l : Lin). IsLicensedStep x js Combine (sum_of_lin l) w.key (sum_of_lin w.right)) (sym d.left)
          (subst (λ k. IsLicensedStep x js Combine (sum_of_lin d.first.lin) k (sum_of_lin w.right)) (sym d.key)
          (subst (λ (l : Lin). IsLicensedStep x js Combine (sum_of_lin d.first.lin) (Some d.name) (sum_of_lin l)) (sym d.right) step))));
    }
