-- The match of the last axiom, with t for its type variable and a for its variable: both instances may come by it.
use Rattle.std.proofs.Common.{◌≡◌, ℕ, ◌<◌, List, [], ◌∷◌, Bool, true, false, ◌&&◌, ◌||◌, Some, refl, sym, ◌∙◌, ap, subst, arith, inl}
use Rattle.std.specs.List.{Contains, list_any}
use Rattle.ae_core.proofs.Recursion.{fold_apply, fold_var}
use Rattle.ae_core.specs.declared.terms.Sort.{Sort, Var}
use Rattle.ae_core.specs.declared.terms.Term.{Term, Bound, Apply}
use Rattle.ae_core.specs.declared.terms.Term.TheVariants.{outs-Apply}
use Rattle.ae_core.specs.declared.terms.Head.TheVariants as head
use Rattle.ae_core.specs.declared.formulas.Formula.{Formula}
use Rattle.ae_core.specs.declared.formulas.Formula.TheOpen as formula_layer
use Rattle.ae_core.specs.declared.formulas.Formula.TheVariants.{outs-All}
use Rattle.ae_core.specs.declared.formulas.Lit.{Lit}
use Rattle.ae_rules.specs.Clauses.{yes_of}
use Rattle.ae_rules.specs.Instances.{have_sorts}
use Rattle.ae_rules.specs.Matches.{is_arithmetic, is_arithmetic_layer, sort_has, sort_has_step, term_has, term_has_step, written, Equals}
use Rattle.ae_rules.specs.Matches.Equals.{variable, application}
use Rattle.ae_rules.specs.Matches.EqualEach.{none, more}
use Rattle.ae_journal.specs.declared.lines.Line.{Line}
use Rattle.ae_journal.specs.States.{of_axiom, pattern_of, Pattern, axiom_pattern}
use Rattle.ae_journal.specs.Standing.{IsBrought}
use Rattle.ae_journal.specs.Standing.IsBrought.{by_hypothesis}
use Rattle.ae_journal.specs.InstanceLines.{FormulaFrom, TermFrom, AreEqualNow, IsMatchAt, HasGeneration}
use Rattle.ae_journal.specs.InstanceLines.FormulaFrom.{of_clause, of_part}
use Rattle.ae_journal.specs.InstanceLines.TermFrom.{stands, part}
use Rattle.ae_journal.proofs.Splits.{contains_here, contains_later}
use Rattle.ae_journal_checks.specs.EveryKind.{T, signature, a, b, g, one, other, choice, block, fixed, problem}
use Rattle.ae_journal_checks.proofs.KindTerms.{ga, closed_T, put_variable}
use Rattle.ae_journal_checks.proofs.KindFormulas.{S, choice_is, choice_true, choice_parts, outside_one, have_sort}

abbrev pattern : Pattern
pattern = axiom_pattern signature 1 (fixed (Var 0)) (formula_layer.All (block (Var 0)))

pattern_is : pattern_of problem 4 (of_axiom 3) ≡ Some pattern
pattern_is = ap (λ l. Some (axiom_pattern signature 1 (fixed (Var 0)) l)) (outs-All (block (Var 0)))

abbrev trigger : Term
trigger = g (Var 0) (Bound 0)

variable_stands : sort_has 0 (Var 0) ≡ true
unfolding sort_has
variable_stands = fold_var Bool (sort_has_step 0) 0

trigger_has : term_has 0 trigger ≡ true
unfolding term_has
trigger_has = fold_apply Bool (term_has_step 0) (head.Symbol 4) (Var 0 ∷ []) (Bound 0 ∷ []) ∙ (λ i. list_any (λ c. c) (variable_stands i ∷ []) || list_any (λ c. c) (term_has 0 (Bound 0) ∷ []))

no_arithmetic : (s : Sort) (t : Term) → is_arithmetic (g s t) ≡ false
unfolding is_arithmetic
no_arithmetic s t = ap is_arithmetic_layer (outs-Apply (head.Symbol 4) (s ∷ []) (t ∷ []))

written_is : written (T ∷ []) (head.Symbol 4) (Var 0 ∷ []) (a ∷ []) ≡ ga
written_is i = Apply (head.Symbol 4) (put_variable i ∷ []) (a ∷ [])

module _ (fresh : Formula → ℕ) (js : List Line) where
  abbrev Known : Term → Type 0
  Known = TermFrom (S fresh) (HasGeneration (S fresh) js 0)

  one_from : HasGeneration (S fresh) js 0 one
  one_from =
      of_part choice one
      (subst (λ (l : Lit). FormulaFrom (S fresh) (IsBrought (S fresh) []) l.formula) choice_true
      (of_clause (yes_of choice ∷ []) (yes_of choice) (by_hypothesis 2 choice choice_is) (contains_here (yes_of choice) [])))
      (subst (λ (w : List Formula). Contains w one) (sym choice_parts) (contains_here one (other ∷ [])))

  ga_known : Known ga
  ga_known = stands one ga one_from (subst (λ (w : List Term). Contains w ga) (sym outside_one) (contains_later b (ga ∷ []) ga (contains_here ga [])))

  a_known : Known a
  a_known = part (head.Symbol 4) (T ∷ []) (a ∷ []) a ga_known (contains_here a [])

  equal : Equals signature Known (AreEqualNow (S fresh) js) (T ∷ []) (a ∷ []) trigger ga
  equal =
      application {h = head.Symbol 4} {ss = Var 0 ∷ []} {ps = Bound 0 ∷ []} {us = a ∷ []} (no_arithmetic (Var 0) (Bound 0))
      (more (variable refl a_known (inl refl)) none) (ap is_arithmetic written_is ∙ no_arithmetic T a) (subst Known (sym written_is) ga_known, ga_known, inl written_is)

  pub matched : IsMatchAt (S fresh) js (HasGeneration (S fresh) js 0) (of_axiom 3) (T ∷ []) (a ∷ [])
  matched = record {
    pattern = pattern;
    of_owner = pattern_is;
    trigger = trigger ∷ [];
    chosen = contains_here (trigger ∷ []) [];
    matches = record {
      one_each = refl;
      closed = λ i. closed_T i && true;
      determined = λ i h e. absurd (undetermined i h e);
      all_known = (a_known, tt);
      sorted = (λ i. have_sorts signature (a ∷ []) (put_variable i ∷ [])) ∙ have_sort;
      equal = ((ga, equal), tt);
    };
  }
    where
      undetermined : (i : ℕ) → i < 1 → list_any (term_has i) (trigger ∷ []) ≡ false → ⊥
      undetermined i h e =
          let z : i ≡ 0 = omega (arith, h) in
          let w : true ≡ false = sym (λ k. trigger_has k || false) ∙ sym (λ k. list_any (term_has (z k)) (trigger ∷ [])) ∙ e in
          cc
