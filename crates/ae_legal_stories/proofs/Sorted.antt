-- The formulas and the possible clauses of a legal journal of a lawful problem are closed and well sorted.
use Rattle.std.specs.Prelude.{ℕ, Bool, true, false, List, [], ◌∷◌, ◌≡◌, Some}
use Rattle.std.specs.List.{Contains}
use Rattle.std.proofs.Common.{refl, ◌∙◌, subst, inl, inr}
use Rattle.std.proofs.lemmas.Bool.{and_from}
use Rattle.ae_base.proofs.AllOf.{all_of_test}
use Rattle.ae_base.proofs.Options.{when_some}
use Rattle.ae_core.specs.Signatures.{IsLawfulProblem}
use Rattle.ae_core.specs.Sorts.{is_closed_sort, formula_ok, same_numeric, sort_of, term_ok}
use Rattle.ae_core.specs.declared.formulas.Formula.{Formula}
use Rattle.ae_core.specs.declared.formulas.Lit.{Lit}
use Rattle.ae_core.specs.declared.proofs.ClauseLine.TheVariants as clause_line
use Rattle.ae_core.specs.declared.terms.Term.{Term}
use Rattle.ae_core.proofs.SortFacts.{numeric_known, numeric_turned, same_known_is}
use Rattle.ae_data.proofs.ExhaustionLaws.{line_states}
use Rattle.ae_journal.proofs.LegalFronts.{line_at}
use Rattle.ae_journal.proofs.Splits.{all_contained, cut}
use Rattle.ae_journal.specs.Legal.{AreLegal}
use Rattle.ae_journal.specs.SolverLines.{MayLearn}
use Rattle.ae_journal.specs.Standing.{Setting, IsBrought, IsFormula, IsPossible}
use Rattle.ae_journal.specs.Standing.IsPossible.{given, row_of, choice_of, order_of, fresh_of}
use Rattle.ae_journal.specs.Standing.IsBrought.{by_hypothesis, by_goal, by_type_instance, by_term_instance}
use Rattle.ae_journal.specs.Standing.IsFormula.{of_clause, of_order, of_choice, of_fresh, of_part}
use Rattle.ae_journal.specs.declared.lines.Line.{Line}
use Rattle.ae_journal.specs.declared.lines.Line.TheVariants as line
use Rattle.ae_rules.proofs.SortedLines.{literal_sorted, line_sorted, stated_sorted}
use Rattle.ae_rules.specs.Clauses.{Clause, literal}
use Rattle.ae_rules.specs.Derivations.{clause_ok}
use Rattle.ae_rules.specs.Instances.{exhaustion, trichotomy}
use Rattle.ae_legal_stories.proofs.Items.{hypothesis_ok, goal_ok}
use Rattle.ae_legal_stories.proofs.Parts.{parts_ok}

module _ (x : Setting) (lawful : IsLawfulProblem x.problem) where
  abbrev IsOk : Formula → Type 0
  IsOk f = formula_ok x.problem.signature f ≡ true

  abbrev SaysOk : Lit → Type 0
  SaysOk l = IsOk l.formula

  -- each formula of such a clause
  of_ok : (c : Clause) → clause_ok x.problem.signature c ≡ true → (l : Lit) → Contains c l → SaysOk l
  of_ok c o l i = all_contained SaysOk c l (all_of_test (λ l. formula_ok x.problem.signature l.formula) SaysOk (λ l e. e) c o) i

  one_said : (sign : Bool) (f : Formula) → IsOk f → clause_ok x.problem.signature (literal sign f ∷ []) ≡ true
  one_said sign f o = and_from _ _ (literal_sorted x.problem.signature (is_closed_sort x.problem.signature) [] f sign ∙ o) refl

  brought_ok : (js : List Line) (c : Clause) → IsBrought x js c → clause_ok x.problem.signature c ≡ true
  brought_ok js _ (by_hypothesis k f e) = one_said true f (hypothesis_ok x.problem lawful x.goal k f e)
  brought_ok js _ (by_goal f e) = one_said false f (goal_ok x.problem lawful x.goal f e)
  brought_ok js _ (by_type_instance k ss c i e) = stated_sorted x.problem x.goal (clause_line.Hyp k ss) c e
  brought_ok js _ (by_term_instance f ts c i e) = stated_sorted x.problem x.goal (clause_line.Inst f ts) c e

  order_ok : (s t : Term) (c : Clause) → trichotomy x.problem.signature s t ≡ Some c → clause_ok x.problem.signature c ≡ true
  order_ok s t c e =
      let sig = x.problem.signature in
      let w = when_some (same_numeric (sort_of sig s) (sort_of sig t)) _ c e in
      let first = same_known_is (sort_of sig s) (sort_of sig t) (numeric_known _ _ w.0) in
      let other = same_known_is (sort_of sig t) (sort_of sig s) (numeric_known _ _ (numeric_turned sig s t w.0)) in
      line_sorted x.problem x.goal (clause_line.Tri s t) c (and_from (term_ok sig s) (term_ok sig t) first.0 other.0) e

  choice_ok : (t : Term) (c : Clause) → exhaustion x.problem.signature t ≡ Some c → clause_ok x.problem.signature c ≡ true
  choice_ok t c e = stated_sorted x.problem x.goal (clause_line.Exh t) c (line_states x.problem.signature lawful.signature t x.problem x.goal refl ∙ e)

  formulas_ok : (js : List Line) (f : Formula) → IsFormula x js f → IsOk f
  formulas_ok js _ (of_clause _ c l b i) = of_ok c (brought_ok js c b) l i
  formulas_ok js _ (of_order _ s t c l a b e i) = of_ok c (order_ok s t c e) l i
  formulas_ok js _ (of_choice _ t c l a e i) = of_ok c (choice_ok t c e) l i
  formulas_ok js _ (of_fresh _ f c l a e i) = of_ok c (line_sorted x.problem x.goal (clause_line.Fresh f (x.fresh f)) c (formulas_ok js f a) e) l i
  formulas_ok js _ (of_part _ f h a i) = parts_ok x.problem.signature f (formulas_ok js f a) h i

  -- ---- in a legal journal
  learnt_ok : (bound : ℕ) (js : List Line) → AreLegal x bound [] js → (c : Clause) → Contains js (line.Learn c) → clause_ok x.problem.signature c ≡ true
  learnt_ok bound js g c h =
      let d = cut js (line.Learn c) h in
      let m : MayLearn x d.0 c = line_at x bound [] d.0 d.1 (line.Learn c) (subst (AreLegal x bound []) d.2 g) in
      stated_sorted x.problem x.goal m.last c m.states

  -- possible clauses are closed and well sorted
  pub possible_ok : (bound : ℕ) (js : List Line) → AreLegal x bound [] js → (c : Clause) → IsPossible x js c → (l : Lit) → Contains c l → SaysOk l
  possible_ok bound js g _ (given _ c (inl b)) = of_ok c (brought_ok js c b)
  possible_ok bound js g _ (given _ c (inr h)) = of_ok c (learnt_ok bound js g c h)
  possible_ok bound js g _ (row_of _ f r c a e) = of_ok c (line_sorted x.problem x.goal (clause_line.Def r f) c (formulas_ok js f a) e)
  possible_ok bound js g _ (choice_of _ t c a e) = of_ok c (choice_ok t c e)
  possible_ok bound js g _ (order_of _ s t c a b e) = of_ok c (order_ok s t c e)
  possible_ok bound js g _ (fresh_of _ f c a e) = of_ok c (line_sorted x.problem x.goal (clause_line.Fresh f (x.fresh f)) c (formulas_ok js f a) e)
