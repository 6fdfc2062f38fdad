-- What the first lines are for a solver: stated clauses, and a lawful state without lines.
use Rattle.std.specs.Prelude.{ℕ, ◌<◌, List, [], ◌∷◌, ◌++◌, ◌≡◌, length, slice_get, slice_index_or, Some}
use Rattle.std.specs.List.{AllByRecursion, Contains}
use Rattle.std.proofs.Common.{refl, sym, ap, ◌∙◌, subst, arith, inl, inr}
use Rattle.std.proofs.lemmas.Option.{slice_get-get_or}
use Rattle.ae_base.specs.Options.{◌>>=◌}
use Rattle.ae_base.specs.Relations.{Pairwise}
use Rattle.ae_base.proofs.Relations.{pairwise_back}
use Rattle.ae_core.specs.declared.formulas.Formula.{All, out-Formula}
use Rattle.ae_core.specs.declared.formulas.Lit.{Lit}
use Rattle.ae_core.specs.declared.formulas.Quant.{Quant}
use Rattle.ae_core.specs.declared.problems.Problem.{Problem}
use Rattle.ae_core.specs.declared.proofs.ClauseLine.{ClauseLine}
use Rattle.ae_core.specs.declared.terms.Term.{Term}
use Rattle.ae_rules.specs.Clauses.{Clause, no_of}
use Rattle.ae_rules.specs.Instances.{fresh_clause}
use Rattle.ae_rules.specs.Derivations.{conclusion, goal_body, clause_of, line_ok}
use Rattle.ae_base.proofs.Options.{only_some}
use Rattle.ae_core.specs.declared.proofs.ClauseLine.TheVariants.{Fresh}
use Rattle.ae_rules.proofs.ClauseLaws.{literal_all}
use Rattle.ae_explain.specs.Trail.{clause}
use Rattle.ae_journal.specs.Standing.{Setting, IsGiven, IsPossible, IsFormula, given, fresh_of}
use Rattle.ae_journal.specs.Standing.IsBrought.{by_hypothesis, by_goal, by_type_instance, by_term_instance}
use Rattle.ae_journal.specs.Standing.IsFormula.{of_clause, of_fresh}
use Rattle.ae_journal.specs.declared.lines.Line.{Line}
use Rattle.ae_journal.specs.declared.lines.Line.TheVariants as line
use Rattle.ae_journal.specs.SolverLines.{IsSourceLine}
use Rattle.ae_journal.proofs.Splits.{contains_here}
use Rattle.ae_sat.specs.Search.{IsStated, IsLawfulState}
use Rattle.ae_sat.specs.Standing.{IsOneOf}
use Rattle.ae_first_clauses.specs.First.{IsFirstLine, IsFirstSetting, States, AreFirst, search_setting, a_hypothesis, the_goal, the_block}

none_there : {P : Type 0} (a : List Line) (j : Line) (k : List Line) → [] ≡ a ++ j ∷ k → P
none_there [] j k q = absurd (let e : 0 ≡ length (j ∷ k) = ap length q in omega (arith, e))
none_there (x ∷ a) j k q = absurd (let e : 0 ≡ length (x ∷ a ++ j ∷ k) = ap length q in omega (arith, e))

module _ (p : Problem) (g : ℕ) where
  -- a clause with the line that states it
  pub line_of : (ls : List ClauseLine) (cs : List Clause) → Pairwise (States p g) ls cs → (k : ℕ) → k < length cs → (l : ClauseLine) × States p g l (clause cs k) × (slice_get ls k ≡ Some l)
  line_of ls cs h k lt = pairwise_back (States p g) ls cs k (clause cs k) h (slice_get-get_or cs k [] lt)

  pub stated : (ls : List ClauseLine) (cs : List Clause) (places : List ℕ) → AreFirst p g ls cs → length places ≡ length cs → ((k : ℕ) → k < length cs → slice_index_or places k 0 ≡ k) → IsStated p g ls cs places
  stated ls cs places first size own = record {
    allowed = first.allowed;
    size = size;
    states = λ k lt.
        let l = line_of ls cs first.states k lt in
        ap (λ (m : ℕ). slice_get ls m >>= conclusion p g) (own k lt) ∙ ap (λ o. o >>= conclusion p g) l.2 ∙ l.1.1;
  }

module _ (x : Setting) (fresh : (q : Quant) → goal_body x.problem x.goal ≡ Some (All q) → x.fresh (All q) ≡ 0) where
  abbrev p : Problem
  p = x.problem

  abbrev g : ℕ
  g = x.goal

  -- the goal's block is a formula
  block_formula : (q : Quant) → goal_body p g ≡ Some (All q) → IsFormula x [] (All q)
  block_formula q e =
      subst (λ (l : Lit). IsFormula x [] l.formula) (literal_all _ q)
      (of_clause [] (no_of (All q) ∷ []) (no_of (All q)) (by_goal (All q) e) (contains_here (no_of (All q)) []))

  block_is : (q : Quant) (c : Clause) → goal_body p g ≡ Some (All q) → conclusion p g (Fresh (All q) 0) ≡ Some c → fresh_clause (All q) (x.fresh (All q)) (out-Formula (All q)) ≡ Some c
  block_is q c b e =
      ap (λ (m : ℕ). fresh_clause (All q) m (out-Formula (All q))) (fresh q b)
      ∙ (only_some (line_ok p g (Fresh (All q) 0)) (clause_of p g (Fresh (All q) 0)) c e).1

  possible : (l : ClauseLine) (c : Clause) → IsFirstLine p g l c → conclusion p g l ≡ Some c → IsPossible x [] c
  possible _ _ (a_hypothesis k f e) w = given [] _ (inl (by_hypothesis k f e))
  possible _ _ (the_goal f e) w = given [] _ (inl (by_goal f e))
  possible _ _ (the_block q e) w = fresh_of [] (All q) _ (block_formula q e) (block_is q _ e w)

  formulas : (l : ClauseLine) (c : Clause) → IsFirstLine p g l c → conclusion p g l ≡ Some c → (m : Lit) → Contains c m → IsFormula x [] m.formula
  formulas _ _ (a_hypothesis k f e) w m h = of_clause [] _ m (by_hypothesis k f e) h
  formulas _ _ (the_goal f e) w m h = of_clause [] _ m (by_goal f e) h
  formulas _ _ (the_block q e) w m h = of_fresh [] (All q) _ m (block_formula q e) (block_is q _ e w) h

  source : (l : ClauseLine) (c : Clause) → IsFirstLine p g l c → conclusion p g l ≡ Some c → IsSourceLine x [] l
  source _ _ (a_hypothesis k f e) w = (_, w, given [] _ (inl (by_hypothesis k f e)))
  source _ _ (the_goal f e) w = (_, w, given [] _ (inl (by_goal f e)))
  source _ _ (the_block q e) w = (_, w, fresh_of [] (All q) _ (block_formula q e) (block_is q _ e w))

  sources : (ls : List ClauseLine) (cs : List Clause) → Pairwise (States p g) ls cs → AllByRecursion (IsSourceLine x []) ls
  sources [] [] h = tt
  sources [] (c ∷ cs) h = absurd h
  sources (l ∷ ls) [] h = absurd h
  sources (l ∷ ls) (c ∷ cs) h = (source l c h.0.0 h.0.1, sources ls cs h.1)

  of_one : (cs : List Clause) (P : Clause → Type 0) → ((k : ℕ) → k < length cs → P (clause cs k)) → (c : Clause) → IsOneOf cs c → P c
  of_one cs P h c o = subst P o.2 (h o.0 o.1)

  lawful_here : (ls : List ClauseLine) (cs : List Clause) → AreFirst p g ls cs → IsLawfulState x [] cs 0 ls []
  lawful_here ls cs first = record {
    possible = of_one cs (IsPossible x []) (λ k lt. let l = line_of p g ls cs first.states k lt in possible l.0 (clause cs k) l.1.0 l.1.1);
    formulas = λ c m o h. of_one cs (λ c. (m : Lit) → Contains c m → IsFormula x [] m.formula)
        (λ k lt. let l = line_of p g ls cs first.states k lt in formulas l.0 (clause cs k) l.1.0 l.1.1) c o m h;
    given = all_given;
    rows = λ j r c lt. absurd (omega (arith, lt));
    layered = λ c h k lt. absurd (omega (arith, lt));
    sources = sources ls cs first.states;
    again = λ a b e c d q. none_there (a ++ line.Learn c ∷ b) (line.Learn d) e q;
  }
    where
      all_given : (c : Clause) → IsGiven x [] c → IsOneOf cs c
      all_given _ (inl (by_hypothesis k f e)) = first.firsts.hypotheses k f e
      all_given _ (inl (by_goal f e)) = first.firsts.goal f e
      all_given _ (inl (by_type_instance k ss c h e)) = absurd (let i = h.1 in omega (arith, i))
      all_given _ (inl (by_term_instance f ts c h e)) = absurd (let i = h.1 in omega (arith, i))
      all_given c (inr h) = absurd (let i = h.1 in omega (arith, i))

-- in each setting in which the constants of the goal's block count from 0
pub lawful_in : (p : Problem) (g : ℕ) (x : Setting) (ls : List ClauseLine) (cs : List Clause) → IsFirstSetting p g x → AreFirst p g ls cs → IsLawfulState x [] cs 0 ls []
lawful_in p g x ls cs s first =
    lawful_here x (λ q e. s.fresh q ((λ i. goal_body (sym s.problem i) (sym s.goal i)) ∙ e)) ls cs
    (subst (λ (y : Problem × ℕ). AreFirst y.0 y.1 ls cs) (λ i. (sym s.problem i, sym s.goal i)) first)

pub lawful_state : (p : Problem) (g : ℕ) (names : List Term) (ls : List ClauseLine) (cs : List Clause) → AreFirst p g ls cs → IsLawfulState (search_setting p g names) [] cs 0 ls []
lawful_state p g names ls cs first = lawful_in p g (search_setting p g names) ls cs (record { problem = refl; goal = refl; fresh = λ q e. refl }) first
