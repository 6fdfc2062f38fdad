-- A goal that leaves nothing to choose gives clauses that leave nothing to decide, where no enumeration adds others.
use Rattle.std.specs.Prelude.{ℕ, false, List, [], ◌∷◌, ◌++◌, ◌≡◌, ◌⊎◌, map, Some}
use Rattle.std.proofs.Common.{refl, sym, ap, ◌∙◌, subst, append-nil, inl, inr}
use Rattle.ae_base.specs.Options.{◌>>=◌}
use Rattle.ae_base.specs.Relations.{Pairwise}
use Rattle.ae_base.proofs.Options.{bind_some}
use Rattle.ae_core.specs.Putting.{put_formula}
use Rattle.ae_core.specs.Sorts.{sort_of}
use Rattle.ae_core.specs.declared.formulas.Formula.{All}
use Rattle.ae_core.specs.declared.formulas.Lit.{Lit}
use Rattle.ae_core.specs.declared.problems.Problem.{Problem}
use Rattle.ae_core.specs.declared.proofs.ClauseLine.{ClauseLine}
use Rattle.ae_core.specs.declared.terms.Sort.{out-Sort}
use Rattle.ae_rules.specs.Clauses.{Clause, opposite, yes_of, no_of, is_false}
use Rattle.ae_rules.specs.Defining.{ComesApart}
use Rattle.ae_rules.specs.Instances.{choices_of, count_from}
use Rattle.ae_rules.proofs.ClauseLaws.{literal_all}
use Rattle.ae_explain.specs.Trail.{clause}
use Rattle.ae_journal.specs.Ground.{itself as holds_itself}
use Rattle.ae_store.specs.Stores.{Stored}
use Rattle.ae_theory.specs.Names.{terms_in}
use Rattle.ae_sat.specs.Apart.{AreConjunctive}
use Rattle.ae_sat.specs.Standing.{IsOneOf}
use Rattle.ae_reach.specs.Budget.{IsConjunctive, HasNoEnumerations}
use Rattle.ae_goal_names.specs.Named.{HasNamed, all_terms}
use Rattle.ae_first_clauses.specs.First.{IsFirstLine, a_hypothesis, the_goal, the_block, AreFirst}
use Rattle.ae_first_clauses.proofs.States.{line_of}
use Rattle.ae_open_states.proofs.Choices.{choice}
use Rattle.ae_choice_clauses.specs.Choices.{IsChoiceLine, a_choice, StatesChoice, AddsChoices}
use Rattle.ae_ground_proofs.proofs.Chosen.{first_occurs}

module _ (p : Problem) (g : ℕ) (apart : IsConjunctive p g) (lines : List ClauseLine) (clauses : List Clause) (begun : AreFirst p g lines clauses) where
  abbrev Comes : Clause → Type 0
  Comes c = (l : Lit) × ComesApart l × ((c ≡ l ∷ []) ⊎ ((m : Lit) × ComesApart m × IsOneOf clauses (m ∷ []) × (c ≡ opposite m ∷ l ∷ [])))

  line_comes : (l : ClauseLine) (c : Clause) → IsFirstLine p g l c → Comes c
  line_comes _ _ (a_hypothesis k f e) = (yes_of f, apart.hypotheses k f e, inl refl)
  line_comes _ _ (the_goal f e) = (no_of f, apart.goal f e, inl refl)
  line_comes _ _ (the_block q e) = (
    no_of (put_formula (count_from 0 q.sorts) q.body),
    apart.block q e,
    inr
        (is_false (All q), subst ComesApart (literal_all false q) (apart.goal (All q) e), subst (λ (m : Lit). IsOneOf clauses (m ∷ [])) (literal_all false q) (begun.firsts.goal (All q) e), refl),
  )

  first_apart : AreConjunctive clauses
  first_apart c o = let l = line_of p g lines clauses begun.states o.0 o.1 in subst Comes o.2 (line_comes l.0 (clause clauses o.0) l.1.0)

-- ---- where no term of an enumeration occurs, no clause is added
module _ (p : Problem) (g : ℕ) (firsts : List ClauseLine) (first : List Clause) (begun : AreFirst p g firsts first) (old before : Stored) (same : old.signature ≡ p.signature) (empty : terms_in old ≡ [])
    (n : HasNamed old before (all_terms first)) (none : HasNoEnumerations p g) where
  no_line : {P : Type 0} (l : ClauseLine) (c : Clause) → IsChoiceLine p.signature (terms_in before) l c → P
  no_line _ _ (a_choice t c h e) =
      let s = bind_some (sort_of p.signature t) (λ s. choices_of p.signature (out-Sort s) >>= λ hs. Some (map (choice t) hs)) c e in
      let hs = bind_some (choices_of p.signature (out-Sort s.0)) (λ hs. Some (map (choice t) hs)) c s.2 in
      absurd (none t s.0 (first_occurs p g firsts first begun old before same empty n t h) s.1 (holds_itself s.0 hs.0 hs.1))

  none_added : (ls : List ClauseLine) (cs : List Clause) → Pairwise (StatesChoice p g (terms_in before)) ls cs → cs ≡ []
  none_added [] [] h = refl
  none_added (l ∷ ls) (c ∷ cs) h = no_line l c h.0.0
  none_added [] (c ∷ cs) h = absurd h
  none_added (l ∷ ls) [] h = absurd h

  module _ (s : Stored) (lines : List ClauseLine) (clauses : List Clause) (adds : AddsChoices p g before s firsts lines first clauses) where
    as_first : clauses ≡ first
    as_first = adds.clauses_are ∙ ap (λ (cs : List Clause). first ++ cs) (none_added adds.more_lines adds.more adds.states) ∙ append-nil first

    pub begin_apart : IsConjunctive p g → AreConjunctive clauses
    begin_apart apart = subst AreConjunctive (sym as_first) (first_apart p g apart firsts first begun)
