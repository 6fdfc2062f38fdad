-- Rows in step with a journal, and one combination more.
use Rattle.std.specs.Prelude.{ℕ, Bool, false, ◌&&◌, ◌||◌, List, [], ◌∷◌, ◌++◌, ◌≡◌, ◌≢◌, ◌⊎◌, slice_get, Some}
use Rattle.std.specs.List.{Contains}
use Rattle.std.proofs.Common.{refl, sym, ap, ◌∙◌, subst, inl, inr, append_assoc}
use Rattle.std.proofs.lemmas.List.Elements.{Contains-append_left, Contains-append_right, Contains-append_cases}
use Rattle.ae_base.proofs.Tests.{true_false}
use Rattle.ae_math.specs.Fractions.{ℚ, zero_ℚ, neg_ℚ, ◌+ℚ◌, ◌*ℚ◌, ℚ_discrete}
use Rattle.ae_math.proofs.FractionLaws.{mul_zero_q, zero_add_q}
use Rattle.ae_math.specs.Forms.{Form}
use Rattle.ae_core.specs.Sorts.{sort_of}
use Rattle.ae_core.specs.declared.terms.Term.{Term}
use Rattle.ae_core.specs.declared.terms.Sort.{Int}
use Rattle.ae_num.specs.declared.forms.Lin.{Lin}
use Rattle.ae_num.specs.Forms.{meaning}
use Rattle.ae_rows.specs.Rows.{combination, factor_at}
use Rattle.ae_rows.proofs.Elimination.{factor_combination}
use Rattle.ae_journal.specs.Journals.{OnlyCombines}
use Rattle.ae_journal.specs.Standing.{Setting}
use Rattle.ae_journal.specs.declared.lines.Line.{Line}
use Rattle.ae_journal.specs.declared.lines.Line.TheVariants as line
use Rattle.ae_journal.proofs.Growing.{further}
use Rattle.ae_journal.proofs.Living.{last_cases}
use Rattle.ae_journal.proofs.Splits.{contains_here, contains_one, contains_at}
use Rattle.ae_combine_lines.proofs.Lists.{front_same, only_more, only_less}
use Rattle.ae_ineq.specs.Sums.{IsZero}
use Rattle.ae_bounds.specs.declared.rows.Row.{Row}
use Rattle.ae_bounds.specs.Rounding.{IsRowOf}
use Rattle.ae_bounds.specs.Rounding.IsRowOf.{as_it_is, rounded}
use Rattle.ae_bounds.specs.Combinations.{IsCombined, IsCombinationOf, IsExtended}
use Rattle.ae_bounds.specs.Combinations.IsExtended.{as_it_was, one_more, zero_more}
use Rattle.ae_bound_lines.proofs.Legal.{standing_more, extended}
use Rattle.ae_bound_widths.specs.Fractions.{IsNoted, AreInStep, AreOverFractions}

-- ---- names of combinations
both_zero : (a b x y : ℚ) → x ≡ zero_ℚ → y ≡ zero_ℚ → a *ℚ x +ℚ b *ℚ y ≡ zero_ℚ
both_zero a b x y e d = (λ i. a *ℚ e i +ℚ b *ℚ d i) ∙ (λ i. mul_zero_q a i +ℚ mul_zero_q b i) ∙ zero_add_q zero_ℚ

-- a name of a combination is one of the two forms
pub name_of_one : (n : ℕ) (p q : Form ℕ) (k : ℕ) → factor_at k (combination n p q) ≢ zero_ℚ → (factor_at k p ≢ zero_ℚ) ⊎ (factor_at k q ≢ zero_ℚ)
name_of_one n p q k m = by_case (ℚ_discrete (factor_at k p) zero_ℚ) (ℚ_discrete (factor_at k q) zero_ℚ)
  where
    by_case : Dec (factor_at k p ≡ zero_ℚ) → Dec (factor_at k q ≡ zero_ℚ) → (factor_at k p ≢ zero_ℚ) ⊎ (factor_at k q ≢ zero_ℚ)
    by_case (no a) d = inl a
    by_case (yes e) (no b) = inr b
    by_case (yes e) (yes d) = absurd (m (factor_combination n p q k ∙ both_zero (neg_ℚ (factor_at n q)) (factor_at n p) (factor_at k p) (factor_at k q) e d))

-- a combination over fractions isn't rounded
pub plain_form : (p q r : Row) (n : ℕ) (c : IsCombinationOf p q n r) → p.integral ≡ false → r.lin ≡ c.form
plain_form p q r n c e = by_row c.of
  where
    by_row : IsRowOf c.form (p.strict || q.strict) r → r.lin ≡ c.form
    by_row (as_it_is h s u stays) = h
    by_row (rounded i m d s u) = absurd (true_false (sym i ∙ c.sort ∙ ap (λ b. b && q.integral) e))

module _ (x : Setting) (js : List Line) (rows : List Row) where
  -- ---- one combination more
  -- the lines before
  pub line_before : (strict : Bool) (f : Lin) (before after : List Line) (b : Bool) (h : Lin) → js ++ line.Combine strict f ∷ [] ≡ before ++ line.Combine b h ∷ after → OnlyCombines after
      → ((f ≡ h) × (strict ≡ b)) ⊎ ((c : List Line) × (js ≡ before ++ line.Combine b h ∷ c) × OnlyCombines c)
  line_before strict f before after b h e o =
      elim (last_cases js before after (line.Combine strict f) (line.Combine b h) e) [
        | inl z ↦ inl (let k : f ≡ h = cc in let s : strict ≡ b = cc in (k, s))
        | inr (c, k) ↦ inr (
          c,
          front_same js (before ++ line.Combine b h ∷ c) (line.Combine strict f) (e ∙ ap (λ (w : List Line). before ++ line.Combine b h ∷ w) k ∙ sym (append_assoc before (line.Combine b h ∷ c) (line.Combine strict f ∷ []))),
          only_less c strict f (subst OnlyCombines k o),
        )
      ]

  pub noted_more : (strict : Bool) (f : Lin) (r : Row) → IsNoted js r → IsNoted (js ++ line.Combine strict f ∷ []) r
  noted_more strict f r n = (n.0, n.1 ++ line.Combine strict f ∷ [], further js n.0 (line.Combine r.strict r.lin ∷ n.1) (line.Combine strict f ∷ []) n.2, only_more n.1 strict f n.3)

  module _ (step : AreInStep x js rows) (over : AreOverFractions x rows) (r : Row) (c : IsCombined rows r) where
    first_in : Contains rows c.first
    first_in = contains_at rows c.lower c.first c.opposed.first_at

    second_in : Contains rows c.second
    second_in = contains_at rows c.upper c.second c.opposed.second_at

    real_more : r.integral ≡ false
    real_more = c.of.sort ∙ ap (λ b. b && c.second.integral) (over.real c.first first_in)

    apart_more : (k : ℕ) (t : Term) → factor_at k (meaning r.lin) ≢ zero_ℚ → slice_get x.names k ≡ Some t → sort_of x.problem.signature t ≡ Some Int → ⊥
    apart_more k t m e i =
        let same : factor_at k (meaning r.lin) ≡ factor_at k (combination c.name (meaning c.first.lin) (meaning c.second.lin)) =
        ap (λ (l : Lin). factor_at k (meaning l)) (plain_form c.first c.second r c.name c.of (over.real c.first first_in)) ∙ c.of.same.factors k in
        elim (name_of_one c.name (meaning c.first.lin) (meaning c.second.lin) k (λ z. m (same ∙ z))) [
          | inl a ↦ over.apart c.first k t first_in a e i
          | inr b ↦ over.apart c.second k t second_in b e i
        ]

    pub over_more : AreOverFractions x (rows ++ r ∷ [])
    over_more = record {
      real = λ s h. elim (Contains-append_cases rows (r ∷ []) s h) [ inl a ↦ over.real s a | inr b ↦ ap (λ (u : Row). u.integral) (sym (contains_one r s b)) ∙ real_more ];
      apart = λ s k t h m e i. elim (Contains-append_cases rows (r ∷ []) s h) [
        | inl a ↦ over.apart s k t a m e i
        | inr b ↦ apart_more k t (λ z. m (ap (λ (u : Row). factor_at k (meaning u.lin)) (sym (contains_one r s b)) ∙ z)) e i
      ];
    }

    pub step_more : AreInStep x (js ++ line.Combine r.strict r.lin ∷ []) (rows ++ r ∷ [])
    step_more = record {
      standing = standing_more x js rows step.standing r c;
      lines = λ before after b h e o. elim (line_before r.strict r.lin before after b h e o) [
        | inl k ↦ (r, Contains-append_right rows (r ∷ []) r (contains_here r []), k.0)
        | inr (d, k, p) ↦ (let a = step.lines before d b h k p in (a.0, Contains-append_left rows (r ∷ []) a.0 a.1, a.2))
      ];
      noted = λ s lower upper h f z. elim (Contains-append_cases rows (r ∷ []) s h) [
        | inl a ↦ noted_more r.strict r.lin s (step.noted s lower upper a f z)
        | inr b ↦ subst (IsNoted (js ++ line.Combine r.strict r.lin ∷ [])) (contains_one r s b) (js, [], refl, tt)
      ];
    }

    pub step_zero : IsZero (meaning r.lin) → AreInStep x js (rows ++ r ∷ [])
    step_zero zero = record {
      standing = (extended x 0 rows (rows ++ r ∷ []) js js step.standing (zero_more rows js r as_it_was c zero)).1;
      lines = λ before after b h e o. let a = step.lines before after b h e o in (a.0, Contains-append_left rows (r ∷ []) a.0 a.1, a.2);
      noted = λ s lower upper h f z. elim (Contains-append_cases rows (r ∷ []) s h) [
        | inl a ↦ step.noted s lower upper a f z
        | inr b ↦ absurd (z (subst (λ (u : Row). IsZero (meaning u.lin)) (contains_one r s b) zero))
      ];
    }

steps_by : (x : Setting) (rows : List Row) (js : List Line) → AreInStep x js rows → AreOverFractions x rows → (rs : List Row) (ks : List Line) → IsExtended rows js rs ks → AreInStep x ks rs × AreOverFractions x rs
steps_by x rows js step over _ _ as_it_was = (step, over)
steps_by x rows js step over _ _ (one_more rs ks r e c none) = let h = steps_by x rows js step over rs ks e in (step_more x ks rs h.0 h.1 r c, over_more x ks rs h.0 h.1 r c)
steps_by x rows js step over _ _ (zero_more rs ks r e c zero) = let h = steps_by x rows js step over rs ks e in (step_zero x ks rs h.0 h.1 r c zero, over_more x ks rs h.0 h.1 r c)

pub steps_kept : (x : Setting) (rows rs : List Row) (js ks : List Line) → AreInStep x js rows → AreOverFractions x rows → IsExtended rows js rs ks → AreInStep x ks rs × AreOverFractions x rs
steps_kept x rows rs js ks step over e = steps_by x rows js step over rs ks e
