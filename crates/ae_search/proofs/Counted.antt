-- How many lines a search may note that leaves nothing to choose.
use Rattle.std.specs.Prelude.{ℕ, ◌≤◌, List, length, count_by}
use Rattle.ae_base.specs.Options.{known}
use Rattle.ae_core.specs.Sorts.{sort_of}
use Rattle.ae_core.specs.declared.terms.Term.{Term}
use Rattle.ae_core.specs.declared.problems.Problem.{Problem}
use Rattle.ae_core.specs.declared.proofs.ClauseLine.{ClauseLine}
use Rattle.ae_rules.specs.Clauses.{Clause}
use Rattle.ae_journal.specs.Ground.{IsGround}
use Rattle.ae_reach.specs.Budget.{IsConjunctive, HasNoSymbols, HasNoEnumerations, HoldsTerms}
use Rattle.ae_store.specs.Stores.{Stored}
use Rattle.ae_theory.specs.Names.{terms_in}
use Rattle.ae_state.specs.declared.holding.Holding.{Holding}
use Rattle.ae_turns.specs.Budget.{HasNoJoins, MayNote}
use Rattle.ae_sat.specs.Apart.{AreConjunctive}
use Rattle.ae_ground_proofs.proofs.Conjunctive.{begin_apart}
use Rattle.ae_ground_proofs.proofs.Chosen.{no_joins, at_most}
use Rattle.ae_goal_search.specs.Started.{IsStarted}

-- of a goal that leaves nothing to choose: what holds of each list that has the terms that occur
abbrev pub OfTerms : Problem → ℕ → (List Term → Type 0) → Type 0
OfTerms p g holds = IsGround p g → IsConjunctive p g → HasNoSymbols p g → HasNoEnumerations p g → (ts : List Term) → HoldsTerms p g ts → holds ts

module _ (p : Problem) (g : ℕ) (lines : List ClauseLine) (clauses : List Clause) (s : Stored) (start : IsStarted p g lines clauses s) (o : Holding)
    (begins : (n : ℕ) → HasNoJoins s → count_by (λ u. known (sort_of s.signature u)) (terms_in s) ≤ n → MayNote o s n) where
  pub of_terms : (holds : ℕ → Type 0) → ((n : ℕ) → AreConjunctive clauses → MayNote o s n → holds n) → OfTerms p g (λ ts. holds (length ts))
  of_terms holds h gr cj ns ne ts k =
      let names = start.names in
      let adds = start.choices in
      h (length ts) (begin_apart p g start.firsts start.first start.begun names.before start.before names.signature names.empty names.named ne s lines clauses adds cj)
      (begins (length ts) (no_joins p g start.firsts start.first start.begun names.before start.before names.signature names.empty names.named s lines clauses adds gr ns)
      (at_most p g start.firsts start.first start.begun names.before start.before names.signature names.empty names.named s lines clauses adds ne start.right.sound.one_name ts k))
