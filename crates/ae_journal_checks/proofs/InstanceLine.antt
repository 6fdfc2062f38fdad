-- The instance of the example may come.
use Rattle.std.proofs.Common.{◌≡◌, ℕ, ◌<◌, List, [], ◌∷◌, Bool, true, false, ◌&&◌, ◌||◌, Some, refl, sym, ◌∙◌, ap, subst, arith, inl, inr}
use Rattle.std.specs.List.{Contains}
use Rattle.ae_base.specs.Options.{or_else, only, when, known, all_known, ◌>>=◌}
use Rattle.ae_base.proofs.Decided.{decided_of}
use Rattle.ae_core.specs.Decided.{Sort_discrete, Sorts_discrete}
use Rattle.ae_core.specs.Putting.{put_sort, put_formula}
use Rattle.ae_core.specs.Sorts.{sort_of, sort_in, is_closed_sort, same_sorts, same_known, head_sort, formula_ok, formula_in, trigger_ok, applied_ok}
use Rattle.ae_core.proofs.SortLaws.{sort_in_apply, sort_in_bound, formula_in_eq, formula_in_ex, quant_in_block, ok_named}
use Rattle.ae_core.proofs.PuttingLaws.{put_named}
use Rattle.ae_core.proofs.Recursion.{fold_eq}
use Rattle.ae_core.specs.declared.terms.Sort.{Sort}
use Rattle.ae_core.specs.declared.terms.Term.{Term, Bound, out-Term}
use Rattle.ae_core.specs.declared.terms.Term.TheVariants.{outs-Apply}
use Rattle.ae_core.specs.declared.terms.Head.TheVariants as head
use Rattle.ae_core.specs.declared.formulas.Formula.{Formula, out-Formula}
use Rattle.ae_core.specs.declared.formulas.Formula.TheVariants.{outs-Ex, outs-Or}
use Rattle.ae_core.specs.declared.formulas.Lit.{Lit}
use Rattle.ae_rules.specs.Clauses.{Clause, opposite, is_true, is_false, no_of, row}
use Rattle.ae_rules.specs.declared.rows.TheConstants.{OR_FROM_LEFT}
use Rattle.ae_rules.proofs.ClauseLaws.{literal_or, literal_ex, row_or}
use Rattle.ae_rules.specs.Instances.{instance_clause, have_sorts}
use Rattle.ae_rules.specs.Derivations.{conclusion}
use Rattle.ae_rules.specs.Matches.{is_arithmetic, is_arithmetic_layer, Equals}
use Rattle.ae_rules.specs.Matches.Equals.{variable, application}
use Rattle.ae_rules.specs.Matches.EqualEach.{none, more}
use Rattle.ae_core.specs.declared.proofs.ClauseLine.TheVariants as clause_line
use Rattle.ae_journal.specs.declared.lines.Line.TheVariants as line
use Rattle.ae_journal.specs.States.{outside, outside_step, of_literal, pattern_of, literal_pattern, is_universal, is_universal_by, quant_of}
use Rattle.ae_journal.specs.Standing.{Setting, IsBrought, IsFormula, MayStand, parts_by, parts_of}
use Rattle.ae_journal.specs.Standing.IsBrought.{by_goal}
use Rattle.ae_journal.specs.Standing.IsFormula.{of_clause}
use Rattle.ae_journal.specs.Standing.IsPossible.{given, row_of}
use Rattle.ae_journal.specs.Standing.MayStand.{reached}
use Rattle.ae_journal.specs.InstanceLines.{FormulaFrom, TermFrom, AreEqualNow, IsMatchAt, HasGeneration, ActsAsUniversal, MayInstantiate}
use Rattle.ae_journal.specs.InstanceLines.FormulaFrom.{of_clause as from_clause, of_part as from_part}
use Rattle.ae_journal.specs.InstanceLines.TermFrom.{stands}
use Rattle.ae_journal.specs.InstanceLines.IsInstance.{of_terms}
use Rattle.ae_journal.specs.Legal.{setting}
use Rattle.ae_journal.proofs.Splits.{contains_one, contains_cases, contains_here, contains_later}
use Rattle.ae_journal_checks.specs.Examples.{T, function_signature, constant, f_of, fixed, block, some_fixed, fixed_goal, instance_problem, instance_story, instance_line}
use Rattle.ae_journal_checks.specs.Laws.{OneInstanceMayCome}

abbrev pub a : Term
a = constant 0

-- ---- sorts
pub put_T : put_sort [] T ≡ T
unfolding T
put_T = put_named [] 0 []

yes_sorts : (ss : List Sort) → same_sorts ss ss ≡ true
yes_sorts ss = decided_of (Sorts_discrete ss ss) refl

closed_T : is_closed_sort function_signature T ≡ true
unfolding T
closed_T = ok_named function_signature (λ i. false) (λ i. true) 0 []

abbrev may : Sort → Bool
may = is_closed_sort function_signature

sort_a : sort_of function_signature a ≡ Some T
unfolding constant
sort_a =
    sort_in_apply function_signature may [] (head.Symbol 0) [] [] ∙ ap (λ b. only b (Some T) >>= λ s. Some (put_sort [] s)) (yes_sorts []) ∙ ap (λ (s : Sort). Some s) put_T

f_sort : (env : List Sort) (t : Term) → sort_in function_signature may env t ≡ Some T → sort_in function_signature may env (f_of t) ≡ Some T
unfolding f_of
f_sort env t e =
    sort_in_apply function_signature may env (head.Symbol 1) [] (t ∷ [])
    ∙ (λ i. all_known (e i ∷ []) >>= head_sort function_signature (head.Symbol 1) [])
    ∙ (λ i. only (same_sorts (T ∷ []) (put_T i ∷ [])) (Some T) >>= λ s. Some (put_sort [] s))
    ∙ ap (λ c. only c (Some T) >>= λ s. Some (put_sort [] s)) (yes_sorts (T ∷ [])) ∙ ap (λ (s : Sort). Some s) put_T

variable_sort : sort_in function_signature may (T ∷ []) (Bound 0) ≡ Some T
variable_sort = sort_in_bound function_signature may (T ∷ []) 0

trigger_sorted : trigger_ok function_signature may (T ∷ []) (f_of (Bound 0)) ≡ true
trigger_sorted = (λ i. known (f_sort (T ∷ []) (Bound 0) variable_sort i) || applied_ok function_signature may (T ∷ []) (out-Term (f_of (Bound 0))))

body_sorted : formula_in function_signature may (T ∷ []) (fixed (Bound 0)) ≡ true
unfolding fixed
body_sorted =
    formula_in_eq function_signature may (T ∷ []) (f_of (Bound 0)) (Bound 0) ∙ (λ i. same_known (f_sort (T ∷ []) (Bound 0) variable_sort i) (variable_sort i))
    ∙ decided_of (Sort_discrete T T) refl

formula_sorted : formula_ok function_signature some_fixed ≡ true
unfolding some_fixed
formula_sorted =
    formula_in_ex function_signature may [] block ∙ quant_in_block function_signature may [] block
    ∙ (λ i. (closed_T i && true) && ((trigger_sorted i && true) && true) && body_sorted i)

pub have_sort : have_sorts function_signature (a ∷ []) (T ∷ []) ≡ true
have_sort = (λ i. or_else (all_known (sort_a i ∷ []) >>= λ os. Some (same_sorts os (T ∷ []))) false) ∙ yes_sorts (T ∷ [])

-- ---- the clause of the instance
abbrev pub clause : Clause
clause = is_true some_fixed ∷ no_of (put_formula (a ∷ []) (fixed (Bound 0))) ∷ []

pub concludes : conclusion instance_problem 0 (clause_line.Inst some_fixed (a ∷ [])) ≡ Some clause
unfolding some_fixed
concludes =
    (λ i. only (formula_sorted i && (known (sort_a i) && true)) (instance_clause function_signature some_fixed (a ∷ []) (out-Formula some_fixed)))
    ∙ ap (instance_clause function_signature some_fixed (a ∷ [])) (outs-Ex block) ∙ ap (λ b. when b clause) have_sort

pub universal : is_universal (is_false some_fixed) ≡ true
unfolding some_fixed
universal = ap (is_universal_by false) (outs-Ex block)

pub pattern_is : pattern_of instance_problem 0 (of_literal (is_false some_fixed)) ≡ Some (literal_pattern function_signature block)
unfolding some_fixed
pattern_is = ap (λ y. only (is_universal_by false y) (quant_of y) >>= λ q. Some (literal_pattern function_signature q)) (outs-Ex block)

pub no_arithmetic : (t : Term) → is_arithmetic (f_of t) ≡ false
unfolding is_arithmetic f_of
no_arithmetic t = ap is_arithmetic_layer (outs-Apply (head.Symbol 1) [] (t ∷ []))

goal_literal : no_of fixed_goal ≡ is_false fixed_goal
unfolding fixed_goal
goal_literal = literal_or false some_fixed (fixed a)

pub some_literal : no_of some_fixed ≡ is_false some_fixed
unfolding some_fixed
some_literal = literal_ex false block

outside_fixed : outside (fixed a) ≡ f_of a ∷ a ∷ []
unfolding outside fixed
outside_fixed = fold_eq (List Term) (Unit {0}) outside_step (λ q. tt) (f_of a) a

goal_parts : parts_of fixed_goal ≡ some_fixed ∷ fixed a ∷ []
unfolding fixed_goal
goal_parts = ap parts_by (outs-Or some_fixed (fixed a))

abbrev row_clause : Clause
row_clause = is_true fixed_goal ∷ no_of some_fixed ∷ []

goal_row : row OR_FROM_LEFT fixed_goal ≡ Some row_clause
unfolding fixed_goal
goal_row = row_or OR_FROM_LEFT some_fixed (fixed a)

module _ (fresh : Formula → ℕ) where
  abbrev x : Setting
  x = setting instance_problem 0 instance_story fresh

  brought : IsBrought x [] (no_of fixed_goal ∷ [])
  brought = by_goal fixed_goal refl

  goal_is_formula : IsFormula x [] fixed_goal
  goal_is_formula = subst (λ (l : Lit). IsFormula x [] l.formula) goal_literal (of_clause [] (no_of fixed_goal ∷ []) (no_of fixed_goal) brought (contains_here (no_of fixed_goal) []))

  goal_is_false : MayStand x [] (is_false fixed_goal)
  goal_is_false =
      reached [] (no_of fixed_goal ∷ []) (is_false fixed_goal) (given [] (no_of fixed_goal ∷ []) (inl brought))
      (subst (Contains (no_of fixed_goal ∷ [])) goal_literal (contains_here (no_of fixed_goal) []))
      (λ m i n. absurd (n (sym (contains_one (no_of fixed_goal) m i) ∙ goal_literal)))

  some_is_false : MayStand x [] (is_false some_fixed)
  some_is_false =
      reached [] row_clause (is_false some_fixed) (row_of [] fixed_goal OR_FROM_LEFT row_clause goal_is_formula goal_row)
      (subst (Contains row_clause) some_literal (contains_later (is_true fixed_goal) (no_of some_fixed ∷ []) (no_of some_fixed) (contains_here (no_of some_fixed) [])))
      (λ m i n. elim (contains_cases (is_true fixed_goal) (no_of some_fixed ∷ []) m i) [
        | inl e ↦ subst (λ (k : Lit). MayStand x [] (opposite k)) e goal_is_false
        | inr r ↦ absurd (n (sym (contains_one (no_of some_fixed) m r) ∙ some_literal))
      ])

  abbrev Known : Term → Type 0
  Known = TermFrom x (HasGeneration x [] 0)

  fixed_from : HasGeneration x [] 0 (fixed a)
  fixed_from =
      from_part fixed_goal (fixed a)
      (subst (λ (l : Lit). FormulaFrom x (IsBrought x []) l.formula) goal_literal (from_clause (no_of fixed_goal ∷ []) (no_of fixed_goal) brought (contains_here (no_of fixed_goal) [])))
      (subst (λ (w : List Formula). Contains w (fixed a)) (sym goal_parts) (contains_later some_fixed (fixed a ∷ []) (fixed a) (contains_here (fixed a) [])))

  f_known : Known (f_of a)
  f_known = stands (fixed a) (f_of a) fixed_from (subst (λ (w : List Term). Contains w (f_of a)) (sym outside_fixed) (contains_here (f_of a) (a ∷ [])))

  a_known : Known a
  a_known = stands (fixed a) a fixed_from (subst (λ (w : List Term). Contains w a) (sym outside_fixed) (contains_later (f_of a) (a ∷ []) a (contains_here a [])))

  equal : Equals function_signature Known (AreEqualNow x []) [] (a ∷ []) (f_of (Bound 0)) (f_of a)
  unfolding f_of
  equal =
      application {h = head.Symbol 1} {ss = []} {ps = Bound 0 ∷ []} {us = a ∷ []} (no_arithmetic (Bound 0)) (more (variable refl a_known (inl refl)) none) (no_arithmetic a) (f_known, f_known, inl refl)

  matched : IsMatchAt x [] (HasGeneration x [] 0) (of_literal (is_false some_fixed)) [] (a ∷ [])
  matched = record {
    pattern = literal_pattern function_signature block;
    of_owner = pattern_is;
    trigger = f_of (Bound 0) ∷ [];
    chosen = contains_here (f_of (Bound 0) ∷ []) [];
    matches = record {
      one_each = refl;
      closed = refl;
      determined = λ i h e. absurd (omega (arith, h));
      all_known = (a_known, tt);
      sorted = (λ i. have_sorts function_signature (a ∷ []) (put_T i ∷ [])) ∙ have_sort;
      equal = ((f_of a, equal), tt);
    };
  }

  acts : (f : Formula) (us : List Term) → instance_line ≡ line.TermInstance f us → ActsAsUniversal x [] f
  acts f us e = let z : some_fixed ≡ f = cc in subst (ActsAsUniversal x []) z (false, some_is_false, universal)

  may_come : (bound : ℕ) → 0 < bound → MayInstantiate x bound [] instance_line
  may_come bound h = record {
    new = λ i. omega (arith, i.1);
    clause = clause;
    owner = of_literal (is_false some_fixed);
    sorts = [];
    terms = a ∷ [];
    is = of_terms some_fixed (a ∷ []) clause false concludes;
    acts = acts;
    number = 0;
    below = h;
    matched = matched;
  }

pub one_instance_may_come : OneInstanceMayCome
one_instance_may_come bound fresh h = may_come fresh bound h
