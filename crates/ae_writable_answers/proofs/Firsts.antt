-- What a search begins with: the formulas of its clauses with those of their parts' literals, and its names.
use Rattle.std.specs.Prelude.{ℕ, Bool, true, false, List, [], ◌∷◌, ◌≡◌, length, filter, Some}
use Rattle.std.specs.List.{AllByRecursion, Contains}
use Rattle.std.proofs.Common.{refl, sym, subst, inl, inr}
use Rattle.ae_base.specs.Relations.{Pairwise}
use Rattle.ae_core.specs.Putting.{put_formula}
use Rattle.ae_core.specs.declared.formulas.Formula.{Formula, All}
use Rattle.ae_core.specs.declared.formulas.Lit.{Lit}
use Rattle.ae_core.specs.declared.problems.Problem.{Problem}
use Rattle.ae_core.specs.declared.proofs.ClauseLine.{ClauseLine}
use Rattle.ae_core.specs.declared.terms.Term.{Term, Apply}
use Rattle.ae_rules.specs.Clauses.{Clause, literal, yes_of, no_of, is_true}
use Rattle.ae_rules.specs.Instances.{count_from, exhaustion}
use Rattle.ae_explain.specs.Trail.{clause}
use Rattle.ae_journal.specs.States.{outside}
use Rattle.ae_journal.specs.Systems.{field_terms}
use Rattle.ae_journal.proofs.Splits.{all_contained, contains_cases, contains_one}
use Rattle.ae_store.specs.Stores.{Stored}
use Rattle.ae_theory.specs.Names.{terms_in}
use Rattle.ae_sat.specs.Search.{HasParts, AllAmong}
use Rattle.ae_sat.specs.Standing.{IsOneOf}
use Rattle.ae_sat.proofs.Closure.{parts_said}
use Rattle.ae_open_states.proofs.Choices.{choice, of_head}
use Rattle.ae_reach.specs.Budget.{IsFirst, a_hypothesis, the_goal, the_block, Occurs, itself, argument, field}
use Rattle.ae_first_clauses.specs.First.{IsFirstLine, a_hypothesis as hypothesis_line, the_goal as goal_line, the_block as block_line}
use Rattle.ae_first_clauses.proofs.States.{line_of}
use Rattle.ae_first_clauses.proofs.Subformulas.{Covers, InSome, all_covered}
use Rattle.ae_choice_clauses.specs.Choices.{IsChoiceLine, a_choice, StatesChoice}
use Rattle.ae_choice_clauses.proofs.Begun.{either}
use Rattle.ae_choice_clauses.proofs.Constructors.{clause_made}
use Rattle.ae_ground_proofs.proofs.Chosen.{first_occurs}
use Rattle.ae_goal_search.specs.Started.{IsStarted}
use Rattle.ae_writable.specs.Numbers.{HasLowestNumerals}
use Rattle.ae_numerals_kept.specs.Lowest.{IsLowest, IsLowestTerm}
use Rattle.ae_numerals_kept.proofs.Lowest.{part_lowest, literal_lowest, body_lowest, put_lowest, constants_lowest, outside_lowest, arguments_lowest, fields_lowest, hypothesis_lowest, goal_lowest, apply_lowest, choice_lowest}
use Rattle.ae_written_lines.proofs.Filtered.{kept, was_there, passed}
use Rattle.ae_written_lines.proofs.Derived.{IsFineLine}
use Rattle.ae_written_lines.proofs.Fine.{is_direct, IsFine, direct_literal, direct_block, direct_equation}

module _ (p : Problem) (g : ℕ) (low : HasLowestNumerals p) where
  -- ---- formulas
  first_lowest : (f : Formula) → IsFirst p g f → IsLowest f
  first_lowest _ (a_hypothesis k f e) = hypothesis_lowest p g k [] f low e
  first_lowest _ (the_goal f e) = goal_lowest p g f low e
  first_lowest _ (the_block q e) = put_lowest (count_from 0 q.sorts) (constants_lowest 0 q.sorts) q.body (body_lowest q (goal_lowest p g (All q) low e))

  literal_fine : (f : Formula) → IsFirst p g f → (sign : Bool) → IsFine (literal sign f).formula
  literal_fine f i sign = (literal_lowest f (first_lowest f i) sign, direct_literal sign f)

  line_fine : (l : ClauseLine) (c : Clause) → IsFirstLine p g l c → (m : Lit) → Contains c m → IsFine m.formula
  line_fine _ _ (hypothesis_line k f e) m h = subst (λ (x : Lit). IsFine x.formula) (contains_one (yes_of f) m h) (literal_fine f (a_hypothesis k f e) true)
  line_fine _ _ (goal_line f e) m h = subst (λ (x : Lit). IsFine x.formula) (contains_one (no_of f) m h) (literal_fine f (the_goal f e) false)
  line_fine _ _ (block_line q e) m h =
      elim (contains_cases (is_true (All q)) (no_of (put_formula (count_from 0 q.sorts) q.body) ∷ []) m h) as (λ _. IsFine m.formula) [
        | inl i ↦ subst (λ (x : Lit). IsFine x.formula) i (goal_lowest p g (All q) low e, direct_block q)
        | inr i ↦
            subst (λ (x : Lit). IsFine x.formula) (contains_one (no_of (put_formula (count_from 0 q.sorts) q.body)) m i)
            (literal_fine (put_formula (count_from 0 q.sorts) q.body) (the_block q e) false)
      ]

  -- ---- names
  occurs_lowest : (t : Term) → Occurs p g t → IsLowestTerm t
  occurs_lowest t (itself f i h) = all_contained IsLowestTerm (outside f) t (outside_lowest f (first_lowest f i)) h
  occurs_lowest t (argument h ss us o i) = all_contained IsLowestTerm us t (arguments_lowest h ss us (occurs_lowest (Apply h ss us) o)) i
  occurs_lowest t (field s ss u o so e c) = all_contained IsLowestTerm (field_terms s u (length ss)) t (fields_lowest s u (length ss) (occurs_lowest u o)) c

  -- the formulas of the clauses, closed under those of their parts' literals
  pub record Closed (clauses : List Clause) : Type 0 where
    pub formulas : List Formula
    pub parts : HasParts formulas
    pub among : AllAmong formulas clauses
    pub fine : AllByRecursion IsFine formulas

  module _ (lines : List ClauseLine) (clauses : List Clause) (s : Stored) (start : IsStarted p g lines clauses s) where
    -- a name that the first clauses bring, or another
    before_lowest : (t : Term) → Contains (terms_in start.before) t → IsLowestTerm t
    before_lowest t h =
        let n = start.names in occurs_lowest t (first_occurs p g start.firsts start.first start.begun n.before start.before n.signature n.empty n.named t h)

    pub name_lowest : (t : Term) → Contains (terms_in s) t → IsLowestTerm t
    name_lowest t h = elim (start.choices.only t h) as (λ _. IsLowestTerm t) [
      | inl o ↦ before_lowest t o
      | inr w ↦ (let c = w.2 in subst IsLowestTerm (sym c.is) (apply_lowest c.head [] [] tt))
    ]

    -- ---- the clauses
    choice_fine : (t : Term) (c : Clause) → IsLowestTerm t → exhaustion p.signature t ≡ Some c → (m : Lit) → Contains c m → IsFine m.formula
    choice_fine t c own e m h =
        let k = clause_made p.signature t c e in
        let w = of_head (choice t) k.0 m (subst (λ (x : Clause). Contains x m) (sym k.2) h) in
        (choice_lowest p.signature t own c e m h, subst (λ (x : Lit). is_direct x.formula ≡ true) w.2 (direct_equation t (Apply w.0 [] [])))

    choice_line_fine : (l : ClauseLine) (c : Clause) → IsChoiceLine p.signature (terms_in start.before) l c → (m : Lit) → Contains c m → IsFine m.formula
    choice_line_fine _ _ (a_choice t c h e) m k = choice_fine t c (before_lowest t h) e m k

    clause_fine : (c : Clause) → IsOneOf clauses c → (m : Lit) → Contains c m → IsFine m.formula
    clause_fine c o m k = elim (either p g start.before s start.firsts lines start.first clauses start.choices c o) as (λ _. IsFine m.formula) [
      | inl i ↦ (let l = line_of p g start.firsts start.first start.begun.states i.0 i.1 in line_fine l.0 (clause start.first i.0) l.1.0 m (subst (λ (w : Clause). Contains w m) (sym i.2) k))
      | inr w ↦ choice_line_fine w.0 c w.1.0 m k
    ]

    in_some : (m : Lit) → InSome IsLowest part_lowest clauses m → IsFine m.formula
    in_some m i = clause_fine (clause clauses i.0) (i.0, i.1, refl) m i.2

    -- ---- the lines of enumerations
    choice_line_ready : (l : ClauseLine) (c : Clause) → IsChoiceLine p.signature (terms_in start.before) l c → IsFineLine l
    choice_line_ready _ _ (a_choice t c h e) = (before_lowest t h, refl)

    pub choice_lines_fine : (ls : List ClauseLine) (cs : List Clause) → Pairwise (StatesChoice p g (terms_in start.before)) ls cs → AllByRecursion IsFineLine ls
    choice_lines_fine [] [] h = tt
    choice_lines_fine (l ∷ ls) (c ∷ cs) h = (choice_line_ready l c h.0.0, choice_lines_fine ls cs h.1)
    choice_lines_fine [] (c ∷ cs) h = absurd h
    choice_lines_fine (l ∷ ls) [] h = absurd h

    pub closed : Closed clauses
    closed =
        let w : Covers IsLowest part_lowest (InSome IsLowest part_lowest clauses) = all_covered IsLowest part_lowest clauses (λ m i. (in_some m i).0) in
        let said : HasParts w.formulas = parts_said w.formulas w.parts in
        record {
          formulas = filter is_direct w.formulas;
          parts = λ h a sign k i. kept is_direct w.formulas (literal sign a).formula (said h a sign (was_there is_direct w.formulas h k) i) (direct_literal sign a);
          among = λ c l o k.
              let i : InSome IsLowest part_lowest clauses l = (o.0, o.1, subst (λ (x : Clause). Contains x l) (sym o.2) k) in
              kept is_direct w.formulas l.formula (w.own l i) (in_some l i).1;
          fine = passed is_direct IsLowest w.formulas w.all;
        }
