-- After combinations of the rows were noted, these are still the rows of the literals.
use Rattle.std.specs.Prelude.{ℕ, ◌≡◌, List, [], ◌∷◌, ◌++◌}
use Rattle.std.specs.List.{Contains}
use Rattle.std.proofs.Common.{refl, sym, ap, ◌∙◌, subst, inl, inr}
use Rattle.std.proofs.lemmas.List.Elements.{Contains-append_left, Contains-append_right, Contains-append_cases}
use Rattle.ae_core.specs.Sorts.{sort_of}
use Rattle.ae_core.specs.declared.terms.Term.{Term}
use Rattle.ae_core.specs.declared.formulas.Lit.{Lit}
use Rattle.ae_journal.specs.Values.{sum_of_lin, sum_in, minus_val}
use Rattle.ae_journal.specs.Standing.{Setting, SurelyStands, value_now}
use Rattle.ae_journal.specs.declared.lines.Line.{Line}
use Rattle.ae_journal.specs.declared.lines.Line.TheVariants as line
use Rattle.ae_journal.proofs.Growing.{surely_more}
use Rattle.ae_journal.proofs.Splits.{contains_one}
use Rattle.ae_combine_lines.specs.Laws.{IsSure}
use Rattle.ae_combine_lines.specs.Laws.IsSure.{of_literal}
use Rattle.ae_combine_lines.proofs.Standing.{surely_less}
use Rattle.ae_combine_lines.proofs.Values.{values_stay}
use Rattle.ae_bounds.specs.declared.rows.Row.{Row}
use Rattle.ae_bounds.specs.declared.rows.Origin.{Origin}
use Rattle.ae_bounds.specs.declared.rows.Origin.TheVariants.{Assumed, Combined}
use Rattle.ae_bounds.specs.Combinations.{IsExtended}
use Rattle.ae_bounds.specs.Combinations.IsExtended.{as_it_was, one_more, zero_more}
use Rattle.ae_bounds.proofs.Closing.{grown}
use Rattle.ae_bound_rest.specs.Rest.{IsGrown}
use Rattle.ae_bound_rest.specs.Laws.{AreThoseAssumed}
use Rattle.ae_bound_solve.specs.Widths.{AreNotedOrNone}
use Rattle.ae_agreed_rows.specs.Kept.{IsKeptFor, AreKeptFor, AreRowsOf, HasAllThatMay}
use Rattle.ae_agreed_rows.specs.Laws.{RowsAreOfMore, CombinedRowsAreOf, ThoseRowsAreAssumed}
use Rattle.ae_agreed_rows.proofs.Single.{counted_is}
use Rattle.ae_agreed_rows.proofs.Agreed.{same_sum}

-- ---- values stay
extended_values : (x : Setting) (t : Term) (rows : List Row) (js : List Line) (rs : List Row) (ks : List Line) → IsExtended rows js rs ks → value_now x ks t ≡ value_now x js t
extended_values x t rows js _ _ as_it_was = refl
extended_values x t rows js _ _ (one_more rs ks r e c none) = values_stay x ks r.strict r.lin t ∙ extended_values x t rows js rs ks e
extended_values x t rows js _ _ (zero_more rs ks r e c zero) = extended_values x t rows js rs ks e

grown_values : (x : Setting) (t : Term) (start : List Row) (js : List Line) (sure : List Row) (ks : List Line) → IsGrown start js sure ks → value_now x ks t ≡ value_now x js t
grown_values x t start js _ _ IsGrown.as_it_was = refl
grown_values x t start js _ _ (IsGrown.one_more sure ks r g made normal none) = values_stay x ks r.strict r.lin t ∙ grown_values x t start js sure ks g

noted_values : (x : Setting) (t : Term) (rows : List Row) (js ks : List Line) → AreNotedOrNone rows js ks → value_now x ks t ≡ value_now x js t
noted_values x t rows js ks (inl e) = ap (λ (ls : List Line). value_now x ls t) e
noted_values x t rows js ks (inr n) = grown_values x t _ js (n.1).sure ks (n.1).grown

-- ---- what surely stands stays
abbrev pub StandsAlike : Setting → Lit → List Line → List Line → Type 0
StandsAlike x l js ks = (SurelyStands x js l → SurelyStands x ks l) × (SurelyStands x ks l → SurelyStands x js l)

combined_alike : (x : Setting) (l : Lit) (start js : List Line) (r : Row) → StandsAlike x l start js → StandsAlike x l start (js ++ line.Combine r.strict r.lin ∷ [])
combined_alike x l start js r w = (λ h. surely_more x js (line.Combine r.strict r.lin ∷ []) l (λ z. z, tt) (w.0 h), λ h. w.1 (surely_less x js r.strict r.lin l h))

extended_alike : (x : Setting) (l : Lit) (rows : List Row) (js : List Line) (rs : List Row) (ks : List Line) → IsExtended rows js rs ks → StandsAlike x l js ks
extended_alike x l rows js _ _ as_it_was = (λ h. h, λ h. h)
extended_alike x l rows js _ _ (one_more rs ks r e c none) = combined_alike x l js ks r (extended_alike x l rows js rs ks e)
extended_alike x l rows js _ _ (zero_more rs ks r e c zero) = extended_alike x l rows js rs ks e

grown_alike : (x : Setting) (l : Lit) (start : List Row) (js : List Line) (sure : List Row) (ks : List Line) → IsGrown start js sure ks → StandsAlike x l js ks
grown_alike x l start js _ _ IsGrown.as_it_was = (λ h. h, λ h. h)
grown_alike x l start js _ _ (IsGrown.one_more sure ks r g made normal none) = combined_alike x l js ks r (grown_alike x l start js sure ks g)

noted_alike : (x : Setting) (l : Lit) (rows : List Row) (js ks : List Line) → AreNotedOrNone rows js ks → StandsAlike x l js ks
noted_alike x l rows js ks (inl e) = (subst (λ (ls : List Line). SurelyStands x ls l) (sym e), subst (λ (ls : List Line). SurelyStands x ls l) e)
noted_alike x l rows js ks (inr n) = grown_alike x l _ js (n.1).sure ks (n.1).grown

-- a row that was assumed is one of the first
assumed_first : (rows : List Row) (js : List Line) (rs : List Row) (ks : List Line) → IsExtended rows js rs ks → (r : Row) (tag : ℕ) → Contains rs r → r.from ≡ Assumed tag → Contains rows r
assumed_first rows js _ _ as_it_was r tag c e = c
assumed_first rows js _ _ (one_more rs ks m x d none) r tag c e = elim (Contains-append_cases rs (m ∷ []) r c) [
  | inl h ↦ assumed_first rows js rs ks x r tag h e
  | inr h ↦ (let z : ◌≡◌ {A = Origin} (Combined d.lower d.upper) (Assumed tag) = sym d.from ∙ ap (λ (w : Row). w.from) (contains_one m r h) ∙ e in absurd (cc z))
]
assumed_first rows js _ _ (zero_more rs ks m x d zero) r tag c e = elim (Contains-append_cases rs (m ∷ []) r c) [
  | inl h ↦ assumed_first rows js rs ks x r tag h e
  | inr h ↦ (let z : ◌≡◌ {A = Origin} (Combined d.lower d.upper) (Assumed tag) = sym d.from ∙ ap (λ (w : Row). w.from) (contains_one m r h) ∙ e in absurd (cc z))
]

pub kept_first : (rows : List Row) (js : List Line) (rs : List Row) (ks : List Line) → IsExtended rows js rs ks → (r : Row) → Contains rows r → Contains rs r
kept_first rows js rs ks e r c = let g = grown rows js rs ks e in subst (λ (ws : List Row). Contains ws r) (sym g.1) (Contains-append_left rows g.0 r c)

module _ (x : Setting) (js middle ks : List Line) (ls : List Lit) (rows rs : List Row) (kept : AreRowsOf x js ls rows) (more : IsExtended rows js rs middle) (rest : AreNotedOrNone rs middle ks) where
  same_now : (t : Term) → value_now x js t ≡ value_now x ks t
  same_now t = sym (noted_values x t rs middle ks rest ∙ extended_values x t rows js rs middle more)

  difference_now : (s t : Term) → sum_in (minus_val (value_now x js s) (value_now x js t)) ≡ sum_in (minus_val (value_now x ks s) (value_now x ks t))
  difference_now s t = λ i. sum_in (minus_val (same_now s i) (same_now t i))

  alike_now : (l : Lit) → StandsAlike x l js ks
  alike_now l =
      let one = extended_alike x l rows js rs middle more in
      let other = noted_alike x l rs middle ks rest in
      (λ h. other.0 (one.0 h), λ h. one.1 (other.1 h))

  still : (l : Lit) (r : Row) → IsKeptFor x js l r → IsKeptFor x ks l r
  still l r k = let o = k.of in record {
    form = k.form;
    strict = k.strict;
    integral = k.integral;
    number = k.number;
    of = record {
      upper = o.upper;
      lower = o.lower;
      is = o.is;
      normal = o.normal;
      sum = o.sum ∙ difference_now o.upper o.lower;
      whole = o.whole;
      is_integral = o.is_integral;
      names = o.names;
    };
    kept = k.kept;
    sure = λ c. (alike_now l).0 (k.sure c);
    counting = λ h. k.counting ((alike_now l).1 h);
  }

  pub combined_are_of : AreRowsOf x ks ls rs
  combined_are_of = record {
    each = λ r tag c e. let k = kept.each r tag (assumed_first rows js rs middle more r tag c e) e in (k.0, k.1, still k.0 r k.2);
    all = λ l s t strict c e. let k = kept.all l s t strict c e in (k.0, kept_first rows js rs middle more k.0 k.1, still l k.0 k.2);
  }

module _ (x : Setting) (js : List Line) (ls : List Lit) (rows : List Row) (kept : AreRowsOf x js ls rows) where
  pub those_assumed : HasAllThatMay x js ls → AreThoseAssumed x js rows
  those_assumed stand = record {
    may = λ l s t strict m e.
        let k = kept.all l s t strict (stand l s t strict m e) e in
        let w = same_sum x js l k.0 k.2 s t strict e in
        let c = counted_is x js l k.0 k.2 in (
          k.0,
          (k.2).number,
          k.1,
          ((k.2).kept).from,
          ap (λ (r : Row). sum_of_lin r.lin) c ∙ w.0,
          ap (λ (r : Row). r.strict) c ∙ w.1,
          λ i. ((k.2).kept).sort ∙ ((k.2).of).is_integral (ap (sort_of x.problem.signature) w.2 ∙ i),
        );
    sure = λ r tag c e f.
        let k = kept.each r tag c e in
        let o = (k.2).of in
        subst (IsSure x js) (sym (ap (λ (w : Row). sum_of_lin w.lin) (counted_is x js k.0 r k.2) ∙ o.sum))
        (of_literal k.0 o.upper o.lower (k.2).strict ((k.2).sure f) o.is);
  }

  -- rows of more literals
  pub of_more : (ms : List Lit) (more : List Row) → AreKeptFor x js ms more → AreRowsOf x js (ls ++ ms) (rows ++ more)
  of_more ms more added = record {
    each = λ r tag c e. elim (Contains-append_cases rows more r c) [
      | inl d ↦ (let k = kept.each r tag d e in (k.0, Contains-append_left ls ms k.0 k.1, k.2))
      | inr d ↦ (let k = added.each r d in (k.0, Contains-append_right ls ms k.0 k.1, k.2))
    ];
    all = λ l s t strict c e. elim (Contains-append_cases ls ms l c) [
      | inl d ↦ (let k = kept.all l s t strict d e in (k.0, Contains-append_left rows more k.0 k.1, k.2))
      | inr d ↦ (let k = added.all l s t strict d e in (k.0, Contains-append_right rows more k.0 k.1, k.2))
    ];
  }

pub combined_rows_are_of : CombinedRowsAreOf
combined_rows_are_of x js middle ks ls rows rs kept more rest = combined_are_of x js middle ks ls rows rs kept more rest

pub those_rows_are_assumed : ThoseRowsAreAssumed
those_rows_are_assumed x js ls rows kept stand = those_assumed x js ls rows kept stand

pub rows_are_of_more : RowsAreOfMore
rows_are_of_more x js ls ms rows more kept added = of_more x js ls rows kept ms more added
