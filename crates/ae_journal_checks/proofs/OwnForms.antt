-- Where the problem states no form and the journal has no line, no form of one's own makes a width an answer.
use Rattle.std.proofs.Common.{◌≡◌, ℕ, List, [], ◌∷◌, ◌++◌, Bool, true, false, Option, Some, refl, sym, ◌∙◌, ap, subst, arith, inl, inr}
use Rattle.std.specs.List.{Contains}
use Rattle.std.proofs.lemmas.Option.{same_Some}
use Rattle.ae_base.proofs.Options.{never_some}
use Rattle.ae_math.specs.Fractions.{ℚ}
use Rattle.ae_core.proofs.Recursion.{fold_true}
use Rattle.ae_core.specs.declared.terms.Term.{Term}
use Rattle.ae_core.specs.declared.formulas.Formula.{Formula, True, out-Formula}
use Rattle.ae_core.specs.declared.formulas.Formula.TheOpen as formula_layer
use Rattle.ae_core.specs.declared.formulas.Formula.TheVariants.{outs-True}
use Rattle.ae_core.specs.declared.formulas.Lit.{Lit}
use Rattle.ae_rules.specs.Clauses.{Clause, is_true, no_of, row}
use Rattle.ae_rules.proofs.ClauseLaws.{literal_true, row_true}
use Rattle.ae_num.specs.declared.forms.Lin.{Lin}
use Rattle.ae_journal.specs.declared.lines.Line.{Line}
use Rattle.ae_journal.specs.declared.lines.Line.TheVariants as line
use Rattle.ae_journal.specs.declared.lines.Oriented.TheVariants as oriented
use Rattle.ae_journal.specs.declared.answers.NumStep.{NumStep}
use Rattle.ae_journal.specs.States.{outside, outside_step, inequality, inequality_of}
use Rattle.ae_journal.specs.Values.{Sum}
use Rattle.ae_journal.specs.Journals.{IsDecided}
use Rattle.ae_journal.specs.Standing.{Setting, IsBrought, IsFormula, IsEntered, IsPossible, MayStand, IsWholeRow, parts_by, parts_of}
use Rattle.ae_journal.specs.Standing.IsBrought.{by_hypothesis, by_goal, by_type_instance, by_term_instance}
use Rattle.ae_journal.specs.Standing.IsFormula.{of_clause, of_order, of_choice, of_fresh, of_part}
use Rattle.ae_journal.specs.Standing.IsEntered.{of_formula, of_term, of_field, of_row, of_other_side}
use Rattle.ae_journal.specs.Standing.IsPossible.{given, row_of, choice_of, order_of, fresh_of}
use Rattle.ae_journal.specs.Standing.MayStand.{decided, reached}
use Rattle.ae_journal.specs.Standing.IsWholeRow.{of_inequality, of_combine, of_rounding}
use Rattle.ae_journal.specs.Points.{IsRemaining}
use Rattle.ae_journal.specs.Licences.{IsLicensedPlus, IsLicensedScale, IsLicensedSubst, IsLicensedStep}
use Rattle.ae_journal.specs.Licences.IsLicensedPlus.{of_sum, of_subtraction, of_difference, of_inequality as plus_of_inequality}
use Rattle.ae_journal.specs.Licences.IsLicensedScale.{of_left_factor, of_right_factor, of_quotient, of_solving}
use Rattle.ae_journal.specs.Licences.IsLicensedSubst.{of_value, of_row as subst_of_row}
use Rattle.ae_journal.specs.Licences.IsLicensedStep.{a_plus, a_scale, a_subst, a_combine, put_constant, make_bound, two_bounds, beyond_bound, take_mean}
use Rattle.ae_journal.specs.Legal.{setting}
use Rattle.ae_journal.proofs.Splits.{contains_one}
use Rattle.ae_journal_checks.specs.Examples.{true_problem, empty_story}
use Rattle.ae_journal_checks.specs.Laws.{OwnFormsAreRefused}
use Rattle.ae_journal_checks.proofs.BackJournal.{found}
use Rattle.ae_journal_checks.proofs.NoBlocks.{NoBlock, truth, no_fresh, no_hypothesis, nothing}
use Rattle.ae_journal_checks.proofs.RuleJournal.{no_end}

-- the front of an empty list is empty
no_front : (js before after : List Line) → js ≡ [] → js ≡ before ++ after → before ≡ []
no_front js [] after e q = refl
no_front js (k ∷ before) after e q = let z : [] ≡ k ∷ before ++ after = sym e ∙ q in absurd (cc)

no_line_in : (js before after : List Line) (k : Line) → js ≡ [] → js ≡ before ++ k ∷ after → ⊥
no_line_in js before after k e q = no_end before after k (sym e ∙ q)

none_there : (js : List Line) (k : Line) → js ≡ [] → ¬ Contains js k
none_there js k e i = nothing k (subst (λ (w : List Line). Contains w k) e i)

outside_true : outside True ≡ []
unfolding outside
outside_true = fold_true (List Term) (Unit {0}) outside_step (λ q. tt)

true_has_no_inequality : (l : Lit) (s t : Term) (c : Bool) → True ≡ l.formula → inequality l ≡ Some (s, t, c) → ⊥
true_has_no_inequality l s t c d e = go l.positive (ap (inequality_of l.positive) (sym outs-True ∙ ap out-Formula d) ∙ e)
  where
    go : (sign : Bool) → inequality_of sign formula_layer.True ≡ Some (s, t, c) → ⊥
    go true e = never_some (s, t, c) e
    go false e = never_some (s, t, c) e

module _ (fresh : Formula → ℕ) where
  abbrev x : Setting
  x = setting true_problem 0 empty_story fresh

  brought : (js : List Line) (c : Clause) (l : Lit) → js ≡ [] → IsBrought x js c → Contains c l → True ≡ l.formula
  brought js _ l q (by_hypothesis k f e) i = absurd (no_hypothesis true_problem k f e)
  brought js _ l q (by_goal f e) i = ap (λ (k : Lit). k.formula) (sym (literal_true false) ∙ ap no_of (same_Some True f e) ∙ contains_one (no_of f) l i)
  brought js c l q (by_type_instance k ss _ h e) i = absurd (none_there js (line.TypeInstance k ss) q h)
  brought js c l q (by_term_instance f ts _ h e) i = absurd (none_there js (line.TermInstance f ts) q h)

  true_row : (r : ℕ) (f : Formula) (c : Clause) (l : Lit) → True ≡ f → row r f ≡ Some c → Contains c l → True ≡ l.formula
  true_row r f c l d e i =
      elim (found (is_true True ∷ []) c _ _ (sym (row_true r) ∙ ap (row r) d ∙ e)) [
        | inl h ↦ ap (λ (k : Lit). k.formula) (contains_one (is_true True) l (subst (λ (w : Clause). Contains w l) (sym h) i))
        | inr h ↦ absurd (never_some c h)
      ]

  mutual
    -- nothing but `true` is a formula, and nothing is a name
    formula_is : (js : List Line) (f : Formula) → js ≡ [] → IsFormula x js f → True ≡ f
    formula_is js _ q (of_clause _ c l b i) = brought js c l q b i
    formula_is js _ q (of_order _ s t c l a b e i) = absurd (no_name js s q a)
    formula_is js _ q (of_choice _ t c l a e i) = absurd (no_name js t q a)
    formula_is js _ q (of_fresh _ f c l a e i) = absurd (no_fresh f (fresh f) c (subst NoBlock (formula_is js f q a) truth) e)
    formula_is js h q (of_part _ f _ a i) =
        absurd (nothing h (subst (λ (w : List Formula). Contains w h) (ap parts_of (sym (formula_is js f q a)) ∙ ap parts_by outs-True) i))

    no_name : (js : List Line) (t : Term) → js ≡ [] → IsEntered x js t → ⊥
    no_name js t q (of_formula _ f _ a i) = nothing t (subst (λ (w : List Term). Contains w t) (ap outside (sym (formula_is js f q a)) ∙ outside_true) i)
    no_name js t q (of_term _ h ss us _ a i) = no_name js _ q a
    no_name js t q (of_field _ s ss u _ a e g i) = no_name js u q a
    no_name js _ q (of_row _ before after strict f e a) = no_row before strict f (no_front js before after q e) a
    no_name js _ q (of_other_side _ before after strict f e a) = no_row before strict f (no_front js before after q e) a

    possible : (js : List Line) (c : Clause) (l : Lit) → js ≡ [] → IsPossible x js c → Contains c l → True ≡ l.formula
    possible js c l q (given _ _ (inl b)) i = brought js c l q b i
    possible js c l q (given _ _ (inr b)) i = absurd (none_there js (line.Learn c) q b)
    possible js c l q (row_of _ f r _ a e) i = true_row r f c l (formula_is js f q a) e i
    possible js c l q (choice_of _ t _ a e) i = absurd (no_name js t q a)
    possible js c l q (order_of _ s t _ a b e) i = absurd (no_name js s q a)
    possible js c l q (fresh_of _ f _ a e) i = absurd (no_fresh f (fresh f) c (subst NoBlock (formula_is js f q a) truth) e)

    stands_is : (js : List Line) (l : Lit) → js ≡ [] → MayStand x js l → True ≡ l.formula
    stands_is js l q (decided _ _ h) = absurd (nothing l (subst (λ (w : List Line). IsDecided w l) q h))
    stands_is js l q (reached _ c _ p i f) = possible js c l q p i

    no_row : (js : List Line) (strict : Bool) (f : Lin) → js ≡ [] → IsWholeRow x js strict f → ⊥
    no_row js strict f q (of_inequality _ l s t _ _ m e d n v) = true_has_no_inequality l s t strict (stands_is js l q m) e
    no_row js strict f q (of_combine _ before after _ _ e o n a) = no_line_in js before after (line.Combine strict f) q e
    no_row js _ f q (of_rounding _ strict g _ a r n) = no_row js strict g q a

  no_plus : (f h : Sum) → IsLicensedPlus x [] f h → ⊥
  no_plus _ _ (of_sum a b n) = no_name [] _ refl n.3
  no_plus _ _ (of_subtraction a b n) = no_name [] _ refl n.3
  no_plus _ _ (of_difference s t m) = no_name [] s refl m.0
  no_plus _ _ (plus_of_inequality l s t strict m e) = true_has_no_inequality l s t strict (stands_is [] l refl m) e

  no_scale : (f : Sum) (z : ℚ) → IsLicensedScale x [] f z → ⊥
  no_scale _ _ (of_left_factor a b n e) = no_name [] _ refl n.3
  no_scale _ _ (of_right_factor a b n e) = no_name [] _ refl n.3
  no_scale _ _ (of_quotient ss a m n r i e) = no_name [] _ refl i
  no_scale _ _ (of_solving s t n m i) = no_name [] s refl m.0

  no_subst : (f : Sum) (n : ℕ) (h : Sum) → IsLicensedSubst x [] f n h → ⊥
  no_subst _ n _ (of_value before _ v t e i) = no_end before [] (line.Orient (oriented.Named n v)) e
  no_subst _ n _ (subst_of_row before _ v strict f e i) = no_end before [] (line.Orient (oriented.Named n v)) e

  no_key : (constants : ℕ → ℚ) (n : ℕ) (factor rest : ℚ) → IsRemaining x [] constants n factor rest → ⊥
  no_key cs n factor rest r = omega (arith, r.largest.0)

  no_step : (s : NumStep) (f : Sum) (k : Option ℕ) (h : Sum) → IsLicensedStep x [] s f k h → ⊥
  no_step _ f _ h (a_plus _ _ c) = no_plus f h c
  no_step _ f _ _ (a_scale _ z c) = no_scale f z c
  no_step _ f _ h (a_subst _ _ n c) = no_subst f n h c
  no_step _ f _ h (a_combine a b _ _ n c) = omega (arith, (c.largest).0.0)
  no_step _ f _ _ (put_constant cs n k strict row _ a b c d i) = omega (arith, c.0)
  no_step _ _ _ _ (make_bound cs n factor rest z a b c) = no_key cs n factor rest b
  no_step _ _ _ _ (two_bounds cs n a b y z w c d e i) = no_key cs n d.0 d.1 d.2
  no_step _ _ _ _ (beyond_bound cs n a z w c d i) = no_key cs n d.0 d.1 d.2
  no_step _ _ _ _ (take_mean cs n y z c d e) = no_key cs n (d.0).0 (d.0).1 (d.0).2

pub own_forms_are_refused : OwnFormsAreRefused
own_forms_are_refused limit bound w a = elim a.licensed.forms [
  | inl s ↦ no_step (a.legal).fresh w.step _ w.key _ s
  | inr (before, last, e, s) ↦ no_end before [] last e
]
