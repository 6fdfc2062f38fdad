-- The journal of one learnt clause is legal.
use Rattle.std.proofs.Common.{◌≡◌, ℕ, List, [], ◌∷◌, ◌++◌, true, false, Some, refl, sym, ◌∙◌, ap, subst, arith, inl, inr}
use Rattle.std.specs.List.{Contains}
use Rattle.std.proofs.lemmas.Option.{same_Some}
use Rattle.ae_base.specs.Options.{only}
use Rattle.ae_core.proofs.SortLaws.{formula_in_true}
use Rattle.ae_core.specs.Sorts.{is_closed_sort}
use Rattle.ae_core.specs.declared.formulas.Formula.{Formula, True}
use Rattle.ae_core.specs.declared.formulas.Lit.{Lit}
use Rattle.ae_core.specs.declared.proofs.ClauseLine.{ClauseLine}
use Rattle.ae_core.specs.declared.proofs.ClauseLine.TheVariants as clause_line
use Rattle.ae_rules.specs.Clauses.{Clause, opposite, is_true, is_false, no_of, row}
use Rattle.ae_rules.specs.declared.rows.TheConstants.{TRUE_STANDS}
use Rattle.ae_rules.proofs.ClauseLaws.{literal_true, row_true}
use Rattle.ae_rules.specs.Derivations.{goal_body, conclusion}
use Rattle.ae_journal.specs.declared.lines.Line.{Line}
use Rattle.ae_journal.specs.declared.lines.Line.TheVariants as line
use Rattle.ae_journal.specs.Standing.{Setting, IsGiven, IsFormula, IsPossible, MayStand}
use Rattle.ae_journal.specs.Standing.IsBrought.{by_hypothesis, by_goal, by_type_instance, by_term_instance}
use Rattle.ae_journal.specs.Standing.IsFormula.{of_clause}
use Rattle.ae_journal.specs.Standing.IsPossible.{given, row_of}
use Rattle.ae_journal.specs.Standing.MayStand.{reached}
use Rattle.ae_journal.specs.SolverLines.{MayLearn}
use Rattle.ae_journal.specs.Legal.{setting}
use Rattle.ae_journal.proofs.Splits.{contains_one, contains_here}
use Rattle.ae_journal_checks.specs.Examples.{signature, true_problem, true_story}
use Rattle.ae_journal_checks.specs.Laws.{OneLearntClauseIsLegal}
use Rattle.ae_journal_checks.proofs.NoBlocks.{own_constants, NoBlock, truth, no_hypothesis, nothing, no_name}
use Rattle.ae_journal_checks.proofs.RuleJournal.{one_line, no_line}

abbrev learnt : Clause
learnt = is_true True ∷ []

the_row : row TRUE_STANDS True ≡ Some learnt
the_row = row_true TRUE_STANDS

row_line : ClauseLine
row_line = clause_line.Def TRUE_STANDS True

states : conclusion true_problem 0 row_line ≡ Some learnt
unfolding row_line
states = ap (λ b. only b (row TRUE_STANDS True)) (formula_in_true signature (is_closed_sort signature) []) ∙ the_row

signs : is_false True ≡ is_true True → ⊥
signs e = let z : false ≡ true = ap (λ (l : Lit). l.positive) e in cc

no_block_in_goal : (f : Formula) → goal_body true_problem 0 ≡ Some f → NoBlock f
no_block_in_goal f e = subst NoBlock (same_Some True f e) truth

no_learn : (js a b e : List Line) (k m : Line) → [] ≡ a ++ k ∷ b ++ m ∷ e → ⊥
no_learn js [] b e k m q = cc
no_learn js (j ∷ a) b e k m q = cc

module _ (fresh : Formula → ℕ) where
  abbrev x : Setting
  x = setting true_problem 0 true_story fresh

  goal_is_false : MayStand x [] (is_false True)
  goal_is_false =
      reached [] (no_of True ∷ []) (is_false True) (given [] (no_of True ∷ []) (inl (by_goal True refl)))
      (subst (Contains (no_of True ∷ [])) (literal_true false) (contains_here (no_of True) []))
      (λ m i n. absurd (n (sym (contains_one (no_of True) m i) ∙ literal_true false)))

  formula : IsFormula x [] True
  formula = subst (λ (l : Lit). IsFormula x [] l.formula) (literal_true false) (of_clause [] (no_of True ∷ []) (no_of True) (by_goal True refl) (contains_here (no_of True) []))

  possible : IsPossible x [] learnt
  possible = row_of [] True TRUE_STANDS learnt formula the_row

  -- the goal's clause says the opposite
  is_new : (d : Clause) → IsGiven x [] d → ¬ ((m : Lit) → Contains d m → Contains learnt m)
  is_new _ (inl (by_hypothesis k f e)) h = no_hypothesis true_problem k f e
  is_new _ (inl (by_goal f e)) h =
      let same : no_of f ≡ is_false True = ap no_of (sym (same_Some True f e)) ∙ literal_true false in
      signs (sym (contains_one (is_true True) (is_false True) (h (is_false True) (subst (Contains (no_of f ∷ [])) same (contains_here (no_of f) [])))))
  is_new d (inl (by_type_instance k ss _ q e)) h = nothing _ q
  is_new d (inl (by_term_instance f ts _ q e)) h = nothing _ q
  is_new d (inr q) h = nothing _ q

  learns : MayLearn x [] learnt
  unfolding row_line
  learns = record {
    some = λ e. let c = contains_here (is_true True) [] in omega (arith, (subst (λ (d : Clause). Contains d (is_true True)) e c).1);
    before = [];
    last = row_line;
    allowed = (((learnt, states), tt), tt);
    from = ((learnt, states, possible), tt);
    states = states;
    fails = λ l i. subst (λ (k : Lit). MayStand x [] (opposite k)) (contains_one (is_true True) l i) goal_is_false;
    new = is_new;
    again = λ a b e c d q. absurd (no_learn [] a b e (line.Learn c) (line.Learn d) q);
  }

pub one_learnt_clause_is_legal : OneLearntClauseIsLegal
one_learnt_clause_is_legal bound = (
  record {
    fresh = λ f. 0;
    apart = λ m n t e. no_name m t e;
    entered = λ n t e. no_name n t e;
    constants = own_constants true_problem no_block_in_goal [] (λ f. 0) true_story.lines (one_line (line.Learn learnt) (λ (y, z, e). cc) (λ (y, z, e). cc) [] no_line);
    lines = (learns (λ f. 0), tt);
  },
  refl,
)
