-- The clauses of a search in which each clause has a true literal: the first ones are among them.
use Rattle.std.specs.Prelude.{ℕ, List, [], ◌∷◌}
use Rattle.ae_core.specs.declared.problems.Problem.{Problem}
use Rattle.ae_core.specs.declared.proofs.ClauseLine.{ClauseLine}
use Rattle.ae_rules.specs.Clauses.{Clause, yes_of, no_of}
use Rattle.ae_store.specs.Stores.{Stored}
use Rattle.ae_sat.specs.Standing.{IsOneOf}
use Rattle.ae_open_states.specs.Finished.{HasFirstClauses}
use Rattle.ae_choice_clauses.proofs.Begun.{still}
use Rattle.ae_goal_search.specs.Started.{IsStarted}

module _ (p : Problem) (g : ℕ) (lines : List ClauseLine) (clauses : List Clause) (s : Stored) (start : IsStarted p g lines clauses s) where
  pub firsts_kept : (now : List Clause) → ((c : Clause) → IsOneOf clauses c → IsOneOf now c) → HasFirstClauses p g now
  firsts_kept now kept = record {
    hypotheses = λ k f e. goes_on (yes_of f ∷ []) (start.begun.firsts.hypotheses k f e);
    goal = λ f e. goes_on (no_of f ∷ []) (start.begun.firsts.goal f e);
    block = λ q e. let b = start.begun.firsts.block q e in (b.0, goes_on _ b.1);
  }
    where
      goes_on : (c : Clause) → IsOneOf start.first c → IsOneOf now c
      goes_on c o = kept c (still p g start.before s start.firsts lines start.first clauses start.choices c o)
