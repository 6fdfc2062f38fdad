-- What stands after a `Combine` line.
use Rattle.std.specs.Prelude.{Bool, List, [], ◌∷◌, ◌++◌, ◌≡◌, ◌≢◌, ◌⊎◌}
use Rattle.std.specs.List.{Contains}
use Rattle.std.proofs.Common.{refl, sym, ap, ◌∙◌, subst, inl, inr, append_assoc}
use Rattle.std.proofs.lemmas.List.{append-nil}
use Rattle.std.proofs.lemmas.List.Elements.{Contains-append_cases}
use Rattle.ae_core.specs.declared.terms.Term.{Term}
use Rattle.ae_core.specs.declared.formulas.Lit.{Lit}
use Rattle.ae_rules.specs.Clauses.{Clause, opposite}
use Rattle.ae_num.specs.declared.forms.Lin.{Lin}
use Rattle.ae_journal.specs.Values.{Sum, sum_of_lin, sum_in, minus_val}
use Rattle.ae_journal.specs.Journals.{IsDecided, OnlyCombines, live, decisions}
use Rattle.ae_journal.specs.Laws.{NoBack}
use Rattle.ae_journal.specs.Standing.{Setting, IsBrought, IsGiven, MayStand, SurelyStands, IsWholeRow, value_now}
use Rattle.ae_journal.specs.Standing.IsBrought.{by_hypothesis, by_goal, by_type_instance, by_term_instance}
use Rattle.ae_journal.specs.Standing.SurelyStands.{by_decision, by_given, by_row}
use Rattle.ae_journal.specs.Standing.IsWholeRow.{of_inequality, of_combine, of_rounding}
use Rattle.ae_journal.specs.Rows.{IsRow}
use Rattle.ae_journal.specs.Rows.IsRow.{of_literal as literal_row, of_line as line_row, of_whole as whole_row}
use Rattle.ae_journal.proofs.Growing.{may_more, further}
use Rattle.ae_journal.proofs.Living.{live_push, decisions-append, last_cases}
use Rattle.ae_journal.proofs.Splits.{contains_one}
use Rattle.ae_journal.specs.declared.lines.Line.{Line}
use Rattle.ae_journal.specs.declared.lines.Line.TheVariants as line
use Rattle.ae_combine_lines.specs.Laws.{IsSure}
use Rattle.ae_combine_lines.specs.Laws.IsSure.{of_literal as sure_literal, of_line as sure_line}
use Rattle.ae_combine_lines.proofs.Lists.{front_same, only_more, only_less}
use Rattle.ae_combine_lines.proofs.Values.{values_stay}

other_line : (js : List Line) (x y : Line) → x ≢ y → Contains (js ++ x ∷ []) y → Contains js y
other_line js x y d h = elim (Contains-append_cases js (x ∷ []) y h) [ inl a ↦ a | inr b ↦ absurd (d (contains_one x y b)) ]

module _ (x : Setting) (js : List Line) (strict : Bool) (f : Lin) where
  brought_less : (c : Clause) → IsBrought x (js ++ line.Combine strict f ∷ []) c → IsBrought x js c
  brought_less _ (by_hypothesis k h e) = by_hypothesis k h e
  brought_less _ (by_goal h e) = by_goal h e
  brought_less _ (by_type_instance k ss c h e) = by_type_instance k ss c (other_line js (line.Combine strict f) (line.TypeInstance k ss) (λ z. cc) h) e
  brought_less _ (by_term_instance g ts c h e) = by_term_instance g ts c (other_line js (line.Combine strict f) (line.TermInstance g ts) (λ z. cc) h) e

  given_less : (c : Clause) → IsGiven x (js ++ line.Combine strict f ∷ []) c → IsGiven x js c
  given_less c (inl b) = inl (brought_less c b)
  given_less c (inr h) = inr (other_line js (line.Combine strict f) (line.Learn c) (λ z. cc) h)

  decided_less : (l : Lit) → IsDecided (js ++ line.Combine strict f ∷ []) l → IsDecided js l
  decided_less l h =
      subst (λ (w : List Lit). Contains w l)
      (ap decisions (live_push js (line.Combine strict f)) ∙ decisions-append (live js) (line.Combine strict f ∷ []) ∙ append-nil (decisions (live js))) h

  pub surely_less : (l : Lit) → SurelyStands x (js ++ line.Combine strict f ∷ []) l → SurelyStands x js l
  surely_less _ (by_decision l h) = by_decision l (decided_less l h)
  surely_less _ (by_given c l g h w) = by_given c l (given_less c g) h (λ m i d. surely_less (opposite m) (w m i d))
  surely_less _ (by_row w l r c s e o h v) = by_row w l r c (surely_less w s) e o h (λ m i d. surely_less (opposite m) (v m i d))

  no_back : NoBack (line.Combine strict f ∷ [])
  no_back = (λ z. z, tt)

  pub may_stay : (l : Lit) → MayStand x js l → MayStand x (js ++ line.Combine strict f ∷ []) l
  may_stay l h = may_more x js (line.Combine strict f ∷ []) l no_back h

  -- ---- rows
  abbrev difference_in : List Line → Term → Term → Sum
  difference_in ks s t = sum_in (minus_val (value_now x ks s) (value_now x ks t))

  difference_stays : (s t : Term) → difference_in js s t ≡ difference_in (js ++ line.Combine strict f ∷ []) s t
  difference_stays s t = λ i. sum_in (minus_val (sym (values_stay x js strict f s) i) (sym (values_stay x js strict f t) i))

  whole_stays : (s : Bool) (g : Lin) → IsWholeRow x js s g → IsWholeRow x (js ++ line.Combine strict f ∷ []) s g
  whole_stays _ _ (of_inequality _ l s t b g m e z n d) = of_inequality (js ++ line.Combine strict f ∷ []) l s t b g (may_stay l m) e z n (d ∙ difference_stays s t)
  whole_stays _ _ (of_combine _ before after b g e o n w) =
      of_combine (js ++ line.Combine strict f ∷ []) before (after ++ line.Combine strict f ∷ []) b g (further js before (line.Combine b g ∷ after) (line.Combine strict f ∷ []) e) (only_more after strict f o) n w
  whole_stays _ _ (of_rounding _ b g r w d n) = of_rounding (js ++ line.Combine strict f ∷ []) b g r (whole_stays b g w) d n

  pub row_stays : (s : Bool) (g : Sum) → IsRow x js s g → IsRow x (js ++ line.Combine strict f ∷ []) s g
  row_stays b _ (literal_row l s t m e) = subst (IsRow x (js ++ line.Combine strict f ∷ []) b) (sym (difference_stays s t)) (literal_row l s t (may_stay l m) e)
  row_stays b _ (line_row before after g e o) =
      line_row before (after ++ line.Combine strict f ∷ []) g (further js before (line.Combine b g ∷ after) (line.Combine strict f ∷ []) e) (only_more after strict f o)
  row_stays b _ (whole_row g w) = whole_row g (whole_stays b g w)

  pub own_row : IsRow x (js ++ line.Combine strict f ∷ []) strict (sum_of_lin f)
  own_row = line_row js [] f refl tt

  -- ---- rows that are surely there
  earlier_line : (before c : List Line) (b : Bool) (h : Lin) → js ++ line.Combine strict f ∷ [] ≡ before ++ line.Combine b h ∷ (c ++ line.Combine strict f ∷ []) → js ≡ before ++ line.Combine b h ∷ c
  earlier_line before c b h e = front_same js (before ++ line.Combine b h ∷ c) (line.Combine strict f) (e ∙ sym (append_assoc before (line.Combine b h ∷ c) (line.Combine strict f ∷ [])))

  pub sure_less : (g : Sum) → IsSure x (js ++ line.Combine strict f ∷ []) g → IsSure x js g ⊎ (g ≡ sum_of_lin f)
  sure_less _ (sure_literal l s t b h e) = inl (subst (IsSure x js) (difference_stays s t) (sure_literal l s t b (surely_less l h) e))
  sure_less _ (sure_line before after b h e o) =
      elim (last_cases js before after (line.Combine strict f) (line.Combine b h) e) [
        | inl z ↦ inr (let k : f ≡ h = cc in ap sum_of_lin (sym k))
        | inr (c, k) ↦ inl (sure_line before c b h (earlier_line before c b h (e ∙ ap (λ (w : List Line). before ++ line.Combine b h ∷ w) k)) (only_less c strict f (subst OnlyCombines k o)))
      ]
