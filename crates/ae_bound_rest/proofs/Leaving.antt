-- After the rest was noted no combination is left.
use Rattle.std.specs.Prelude.{ℕ, Bool, true, false, ◌&&◌, ◌||◌, Option, Some, None, List, [], ◌∷◌, ◌++◌, map, ◌≡◌, ◌≢◌}
use Rattle.std.specs.List.{Contains}
use Rattle.std.proofs.Common.{refl, sym, ap, ◌∙◌, subst, arith, inl, inr, append_assoc}
use Rattle.std.proofs.lemmas.List.{append-nil}
use Rattle.std.proofs.lemmas.List.Elements.{Contains-append_left, Contains-append_right, Contains-append_cases}
use native.Mathlib.Decide.{ℕ_discrete}
use Rattle.ae_math.specs.Fractions.{zero_ℚ, neg_ℚ, is_positive}
use Rattle.ae_math.specs.Forms.{SameForm, scale}
use Rattle.ae_num.specs.declared.forms.Lin.{Lin}
use Rattle.ae_num.specs.Forms.{meaning, IsNormal}
use Rattle.ae_num.proofs.UniqueLaws.{unique}
use Rattle.ae_rows.specs.Rows.{factor_at, combination}
use Rattle.ae_journal.specs.Values.{Sum, leaf_factor, sum_of_lin}
use Rattle.ae_journal.specs.Sides.{AreWhole, IsRounded}
use Rattle.ae_journal.specs.Standing.{Setting, IsWholeRow}
use Rattle.ae_journal.specs.Standing.IsWholeRow.{of_inequality, of_combine, of_rounding}
use Rattle.ae_journal.specs.Rows.{add_sums, IsMultiple, IsRow, MayCombine}
use Rattle.ae_journal.specs.Rows.IsRow.{of_literal, of_line, of_whole}
use Rattle.ae_journal.specs.Journals.{OnlyCombines}
use Rattle.ae_journal.specs.Points.{NoneLeft}
use Rattle.ae_journal.specs.declared.lines.Line.{Line}
use Rattle.ae_journal.specs.declared.lines.Line.TheVariants as line
use Rattle.ae_journal.proofs.Splits.{contains_here, contains_one}
use Rattle.ae_combine_lines.specs.Laws.{IsSure}
use Rattle.ae_combine_lines.specs.Laws.IsSure.{of_literal as sure_literal, of_line as sure_line}
use Rattle.ae_combine_lines.proofs.Sums.{factor_in_sum, combined_sum}
use Rattle.ae_bounds.specs.declared.rows.Row.{Row}
use Rattle.ae_bounds.specs.declared.rows.Unrounded.{Unrounded}
use Rattle.ae_bounds.specs.declared.rows.Origin.{Origin}
use Rattle.ae_bounds.specs.declared.rows.Origin.TheVariants.{Assumed, Combined}
use Rattle.ae_bounds.specs.Rounding.{HasForm}
use Rattle.ae_bounds.specs.Rounding.HasForm.{own, assumed}
use Rattle.ae_bounds.specs.Combinations.{IsThere}
use Rattle.ae_bound_widths.specs.Fractions.{AreFinished}
use Rattle.ae_bound_widths.proofs.Left.{sum_multiple, same_factor, whole_name, number_rounded}
use Rattle.ae_bound_rest.specs.Rest.{plain, counted, IsStandingIn, AreOpposedIn, IsGrown, IsDoneIn, AreAllNoted}
use Rattle.ae_bound_rest.specs.Rest.IsGrown.{as_it_was, one_more}
use Rattle.ae_bound_rest.specs.Laws.{AreAgreed, AreThoseAssumed}
use Rattle.ae_bound_rest.specs.Inner.Pairs.{IsPlain}
use Rattle.ae_bound_widths.specs.Fractions.{IsNoted}
use Rattle.ae_bound_widths.proofs.InStep.{line_before, noted_more}
use Rattle.ae_bound_rest.proofs.Agreed.{combined_sorted}
use Rattle.ae_bound_rest.proofs.Roundings.{rounded_one, rounded_again}
use Rattle.ae_bounds.proofs.OwnForms.{counts_of}
use Rattle.ae_bound_rest.proofs.Counting.{contains_grown, plain_grown, counted_cases, counts_back}
use Rattle.ae_bound_rest.proofs.Growth.{fine_in, AreFine, grown_fine, map_in, in_map, counted_combined}

-- forms with one sum are one form
one_form : (f h : Lin) → IsNormal f → IsNormal h → sum_of_lin f ≡ sum_of_lin h → f ≡ h
one_form f h n m e = unique f h n m (record { factors = λ k. same_factor f h k e; constants = ap (λ (s : Sum). s.constant) e })

still_noted : (x : Setting) (start : List Row) (js : List Line) (rs : List Row) (ks : List Line) → IsGrown start js rs ks → (r : Row) → IsNoted js r → IsNoted ks r
still_noted x start js _ _ as_it_was r n = n
still_noted x start js _ _ (one_more rs ks s g m f d) r n = noted_more x ks rs s.strict s.lin r (still_noted x start js rs ks g r n)

module _ (x : Setting) (js : List Line) (rows : List Row) (ks : List Line) (a : AreAgreed x js rows) (done : AreFinished rows) (all : AreAllNoted rows js ks) (given : AreThoseAssumed x ks rows) where
  abbrev sure : List Row
  sure = all.sure

  fine : AreFine x 0 js sure ks
  fine = grown_fine x 0 js rows a done sure ks all.grown

  is_plain : (r : Row) → Contains sure r → IsPlain r
  is_plain r c = plain_grown (map counted rows) js start sure ks all.grown r c
    where
      start : (s : Row) → Contains (map counted rows) s → IsPlain s
      start s h = let m = in_map counted rows s h in subst IsPlain m.2 (counted_cases IsPlain m.0 (λ tag u e f. refl) (λ tag e. refl) (λ i j e. refl))

  is_sure : (r : Row) → Contains rows r → Contains sure (counted r)
  is_sure r c = contains_grown (map counted rows) js sure ks all.grown (counted r) (map_in counted rows r c)

  -- ---- the rows of the journal
  -- a line's row counts, with its strictness
  line_row : (before after : List Line) (b : Bool) (f : Lin) → ks ≡ before ++ line.Combine b f ∷ after → OnlyCombines after → (s : Row) × Contains sure s × (s.lin ≡ f) × (s.strict ≡ b)
  line_row before after b f e o = in_lines sure ks all.grown before after b f e o
    where
      in_lines : (rs : List Row) (ls : List Line) → IsGrown (map counted rows) js rs ls → (before after : List Line) (b : Bool) (f : Lin) → ls ≡ before ++ line.Combine b f ∷ after → OnlyCombines after
          → (s : Row) × Contains rs s × (s.lin ≡ f) × (s.strict ≡ b)
      in_lines _ _ as_it_was before after b f e o =
          let k = a.lines before after b f e o in
          let same = counted_combined k.0 k.1 k.2 k.4 in
          (counted k.0, map_in counted rows k.0 k.3, ap (λ (y : Row). y.lin) same ∙ k.5, ap (λ (y : Row). y.strict) same ∙ k.6)
      in_lines _ _ (one_more rs ls r g m n d) before after b f e o =
          elim (line_before x ls rs r.strict r.lin before after b f e o) [
            | inl k ↦ (r, Contains-append_right rs (r ∷ []) r (contains_here r []), k.0, k.1)
            | inr k ↦ (let h = in_lines rs ls g before k.0 b f k.1 k.2 in (h.0, Contains-append_left rs (r ∷ []) h.0 h.1, h.2, h.3))
          ]

  -- a row over integers of the journal is one of these, or one of them rounded
  whole_member : (b : Bool) (f : Lin) → IsWholeRow x ks b f → IsNormal f × ((p : Row) × IsStandingIn sure p × (p.lin ≡ f) × (p.strict ≡ b) × (f.parts ≢ [] → p.integral ≡ true))
  whole_member _ _ (of_inequality _ l s t b f m e i n d) =
      let k = given.may l s t b m e in
      let c = fine.fine (counted k.0) (is_sure k.0 k.2) in
      let same : (counted k.0).lin ≡ f = one_form (counted k.0).lin f c.normal n (k.4 ∙ sym d) in
      (n, (counted k.0, inl (is_sure k.0 k.2), same, k.5, λ z. counted_cases (λ (y : Row). y.integral ≡ true) k.0 (λ tag u o v. k.6 i) (λ tag o. k.6 i) (λ u v o. k.6 i)))
  whole_member _ _ (of_combine _ before after b f e o some w) =
      let k = line_row before after b f e o in
      let c = fine.fine k.0 k.1 in
      let n : IsNormal f = subst IsNormal k.2 c.normal in
      let name = whole_name x f n w some in
      (n, (k.0, inl k.1, k.2, k.3, λ z. c.sorted.integral name.0 (λ v. name.2 (ap (λ (h : Lin). factor_at name.0 (meaning h)) (sym k.2) ∙ v)) (name.1, name.3, name.4)))
  whole_member _ _ (of_rounding _ b f r w d n) = by_member (whole_member b f w)
    where
      by_member : IsNormal f × ((p : Row) × IsStandingIn sure p × (p.lin ≡ f) × (p.strict ≡ b) × (f.parts ≢ [] → p.integral ≡ true)) → IsNormal r × ((p : Row) × IsStandingIn sure p × (p.lin ≡ r) × (p.strict ≡ false) × (r.parts ≢ [] → p.integral ≡ true))
      by_member (m, (p, at, e, s, i)) = (n, by_place at)
        where
          names : f.parts ≢ []
          names z = number_rounded b f r z d

          is : IsRounded p.strict p.lin r
          is = subst (λ (h : Lin). IsRounded p.strict h r) (sym e) (subst (λ c. IsRounded c f r) (sym s) d)

          own_names : p.lin.parts ≢ []
          own_names z = names (ap (λ (h : Lin). h.parts) (sym e) ∙ z)

          by_place : IsStandingIn sure p → (q : Row) × IsStandingIn sure q × (q.lin ≡ r) × (q.strict ≡ false) × (r.parts ≢ [] → q.integral ≡ true)
          by_place (inl c) =
              (plain r false true p.counts, inr (p, c, record { whole = i names; names = own_names; normal = n; is = is; own = refl }), refl, refl, λ z. refl)
          -- what is rounded isn't rounded any further
          by_place (inr h) =
              let loose : p.strict ≡ false = ap (λ (y : Row). y.strict) (h.2).own in
              let again : IsRounded false p.lin p.lin = rounded_again (h.0).strict (h.0).lin (fine.fine h.0 h.1).normal (h.2).names p.lin (h.2).is in
              let same : p.lin ≡ r = rounded_one false p.lin (h.2).normal own_names p.lin r again (subst (λ c. IsRounded c p.lin r) loose is) in
              (p, inr h, same, loose, λ z. ap (λ (y : Row). y.integral) (h.2).own)

  -- each row of the journal
  pub member : (b : Bool) (g : Sum) → IsRow x ks b g → (p : Row) × IsStandingIn sure p × (sum_of_lin p.lin ≡ g) × (p.strict ≡ b)
  member _ _ (of_literal l s t m e) = let k = given.may l s t _ m e in (counted k.0, inl (is_sure k.0 k.2), k.4, k.5)
  member _ _ (of_line before after f e o) = let k = line_row before after _ f e o in (k.0, inl k.1, ap sum_of_lin k.2, k.3)
  member _ _ (of_whole f w) = let k = (whole_member _ f w).1 in (k.0, k.1, ap sum_of_lin k.2, k.3)

  -- each row that counts is surely there
  sure_start : (s : Row) → Contains (map counted rows) s → s.counts ≡ true → IsSure x ks (sum_of_lin s.lin)
  sure_start s h =
      let m = in_map counted rows s h in
      subst (λ (y : Row). y.counts ≡ true → IsSure x ks (sum_of_lin y.lin)) m.2 (by_origin m.0 m.1 (m.0).from refl)
    where
      by_origin : (r : Row) → Contains rows r → (o : Origin) → r.from ≡ o → (counted r).counts ≡ true → IsSure x ks (sum_of_lin (counted r).lin)
      by_origin r c (Assumed tag) e f = given.sure r tag c e (counts_back r tag e f)
      by_origin r c (Combined lower upper) e f =
          let n = still_noted x (map counted rows) js sure ks all.grown r (a.noted r lower upper c e (λ z. done.loose (record { row = r; among = c; zero = z; lower = lower; upper = upper; from = e }))) in
          subst (λ (y : Row). IsSure x ks (sum_of_lin y.lin)) (sym (counted_combined r lower upper e)) (sure_line n.0 n.1 r.strict r.lin n.2 n.3)

  is_there_sure : (s : Row) → Contains sure s → s.counts ≡ true → IsSure x ks (sum_of_lin s.lin)
  is_there_sure s c f = in_growth sure ks all.grown [] (sym (append-nil ks)) tt s c f
    where
      in_growth : (rs : List Row) (ls : List Line) → IsGrown (map counted rows) js rs ls → (more : List Line) → ks ≡ ls ++ more → OnlyCombines more → (s : Row) → Contains rs s → s.counts ≡ true → IsSure x ks (sum_of_lin s.lin)
      in_growth _ _ as_it_was more e o s c f = sure_start s c f
      in_growth _ _ (one_more rs ls r g m n d) more e o s c f =
          elim (Contains-append_cases rs (r ∷ []) s c) [
            | inl h ↦ in_growth rs ls g (line.Combine r.strict r.lin ∷ more) (e ∙ append_assoc ls (line.Combine r.strict r.lin ∷ []) more) o s h f
            | inr h ↦ subst (λ (y : Row). IsSure x ks (sum_of_lin y.lin)) (contains_one r s h)
                (sure_line ls more r.strict r.lin (e ∙ append_assoc ls (line.Combine r.strict r.lin ∷ []) more) o)
          ]

  -- ---- none is left
  module _ (strict : Bool) (f : Lin) (m : MayCombine x ks strict f) where
    one : (p : Row) × IsStandingIn sure p × (sum_of_lin p.lin ≡ m.combination.one) × (p.strict ≡ m.combination.strict_one)
    one = member m.combination.strict_one m.combination.one m.combination.combined.first

    other : (p : Row) × IsStandingIn sure p × (sum_of_lin p.lin ≡ m.combination.other) × (p.strict ≡ m.combination.strict_other)
    other = member m.combination.strict_other m.combination.other m.combination.combined.second

    factor_one : (k : ℕ) → factor_at k (meaning (one.0).lin) ≡ leaf_factor m.combination.one.parts k
    factor_one k = sym (factor_in_sum (one.0).lin k) ∙ ap (λ (s : Sum). leaf_factor s.parts k) one.2

    factor_other : (k : ℕ) → factor_at k (meaning (other.0).lin) ≡ leaf_factor m.combination.other.parts k
    factor_other k = sym (factor_in_sum (other.0).lin k) ∙ ap (λ (s : Sum). leaf_factor s.parts k) other.2

    opposed : AreOpposedIn sure one.0 other.0 m.combination.key
    opposed = record {
      first_in = one.1;
      second_in = other.1;
      normal = ((fine_in x ks sure fine.fine one.0 one.1).normal, (fine_in x ks sure fine.fine other.0 other.1).normal);
      below = record {
        largest = record { absent = λ k h. factor_one k ∙ (m.combination.combined.largest.0).2 k (omega (arith, h)) };
        sign = ap is_positive (factor_one m.combination.key) ∙ m.combination.combined.signs.0;
      };
      above = record {
        largest = record { absent = λ k h. factor_other k ∙ (m.combination.combined.largest.1).2 k (omega (arith, h)) };
        sign = ap (λ t. is_positive (neg_ℚ t)) (factor_other m.combination.key) ∙ m.combination.combined.signs.1;
      };
    }

    made : IsDoneIn sure one.0 other.0 m.combination.key
    made = all.complete one.0 other.0 m.combination.key opposed

    plain_is_sum : sum_of_lin made.form ≡ m.plain
    plain_is_sum =
        combined_sum m.combination.key (one.0).lin (other.0).lin made.form made.same
        ∙ (λ i. add_sums (neg_ℚ (leaf_factor (other.2 i).parts m.combination.key)) (one.2 i) (leaf_factor (one.2 i).parts m.combination.key) (other.2 i)) ∙ sym m.combination.is

    -- a positive multiple of a row that counts was noted, or is one of a literal's row
    not_there : (h : Lin) → sum_of_lin f ≡ sum_of_lin h → IsThere sure (meaning h) → ⊥
    not_there h e t =
        let own_form : t.form ≡ t.row.lin = by_form t.form t.of in
        let multiple = sum_multiple h t.row.lin t.times t.positive (subst (λ (l : Lin). SameForm ℕ_discrete (scale t.times (meaning l)) (meaning h)) own_form t.same) in
        by_sure (sum_of_lin t.row.lin) (is_there_sure t.row t.among (counts_of t.row t.form t.of 0 (ap (λ (y : Row). y.from) (is_plain t.row t.among)))) (subst (λ (s : Sum). IsMultiple s (sum_of_lin t.row.lin)) (sym e) multiple)
      where
        by_form : (l : Lin) → HasForm t.row l → l ≡ t.row.lin
        by_form _ (own d m) = refl
        by_form _ (assumed d tag u o v) = absurd (let z : ◌≡◌ {A = Option Unrounded} None (Some u) = sym (ap (λ (y : Row). y.unrounded) (is_plain t.row t.among)) ∙ v in cc)

        by_sure : (g : Sum) → IsSure x ks g → IsMultiple (sum_of_lin f) g → ⊥
        by_sure _ (sure_literal l s u b w d) k = m.no_literal l s u b w d k
        by_sure _ (sure_line before after b l d o) k = m.no_line before after b l d o k

    -- two rows over integers, where their combination is one
    both_whole : (h : Lin) → h ≡ made.form → AreWhole x.problem.signature x.names h → h.parts ≢ [] → (one.0).integral && (other.0).integral ≡ true
    both_whole h e w some =
        let k = whole_name x h (subst IsNormal (sym e) made.normal) w some in
        let at : factor_at k.0 (combination m.combination.key (meaning (one.0).lin) (meaning (other.0).lin)) ≢ zero_ℚ = λ z. k.2 (ap (λ (l : Lin). factor_at k.0 (meaning l)) e ∙ made.same.factors k.0 ∙ z) in
        (combined_sorted x one.0 other.0 (plain h false ((one.0).integral && (other.0).integral) true) m.combination.key (fine_in x ks sure fine.fine one.0 one.1).sorted (fine_in x ks sure fine.fine other.0 other.1).sorted opposed.below opposed.above refl
        (λ j v z. v (ap (λ (l : Lin). factor_at j (meaning l)) e ∙ made.same.factors j ∙ z))).integral k.0 k.2 (k.1, k.3, k.4)

    rounded_there : (h : Lin) → IsNormal h → sum_of_lin h ≡ m.plain → AreWhole x.problem.signature x.names h → IsRounded m.was_strict h f → ⊥
    rounded_there h n e w d =
        let some : h.parts ≢ [] = λ z. number_rounded m.was_strict h f z d in
        let same : h ≡ made.form = one_form h made.form n made.normal (e ∙ sym plain_is_sum) in
        let strictness : m.was_strict ≡ (one.0).strict || (other.0).strict = m.combination.strictness ∙ (λ i. sym one.3 i || sym other.3 i) in
        not_there f refl (made.rounded (plain f false true true) (record {
          whole = both_whole h same w some;
          names = λ z. some (ap (λ (l : Lin). l.parts) same ∙ z);
          normal = m.normal;
          is = subst (λ b. IsRounded b made.form f) strictness (subst (λ (l : Lin). IsRounded m.was_strict l f) same d);
          own = refl;
        }))

  pub none_left : NoneLeft x ks
  none_left strict f m =
      let d = made strict f m in
      elim m.is [ inl b ↦ not_there strict f m d.form (b.1 ∙ sym (plain_is_sum strict f m)) d.there | inr b ↦ rounded_there strict f m b.0 b.1 b.2 b.3 b.4 ]
