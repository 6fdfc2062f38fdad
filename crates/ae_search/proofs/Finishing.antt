-- A search in which nothing is left to do shows a saturated state, and one that can be written.
use Rattle.std.specs.Prelude.{ℕ, true, List, ◌≡◌, ◌⊎◌, slice_get, Some}
use Rattle.std.specs.List.{AllByRecursion, Contains}
use Rattle.std.proofs.Common.{refl, sym, ap, ◌∙◌, subst, inl, inr}
use Rattle.ae_core.specs.Sorts.{formula_ok}
use Rattle.ae_core.specs.declared.formulas.Lit.{Lit}
use Rattle.ae_core.specs.declared.problems.Problem.{Problem}
use Rattle.ae_core.specs.declared.problems.Signature.{Signature}
use Rattle.ae_core.specs.declared.proofs.ClauseLine.{ClauseLine}
use Rattle.ae_core.specs.declared.terms.Term.{Term}
use Rattle.ae_rules.specs.Clauses.{Clause}
use Rattle.ae_rules.specs.Instances.{exhaustion}
use Rattle.ae_explain.specs.declared.trail.Assigned.{Assigned}
use Rattle.ae_explain.specs.Trail.{at, clause}
use Rattle.ae_journal.specs.States.{IsSaturated}
use Rattle.ae_journal.specs.Systems.{IsCompleted, IsName}
use Rattle.ae_journal.proofs.Splits.{contains_at}
use Rattle.ae_settled.specs.Met.{Satisfies}
use Rattle.ae_store.specs.Stores.{Stored}
use Rattle.ae_theory.specs.Names.{terms_in}
use Rattle.ae_theory.specs.Noting.{literals}
use Rattle.ae_theory.specs.Tagged.{Tagged}
use Rattle.ae_state.specs.declared.holding.Holding.{Holding}
use Rattle.ae_state.specs.Complete.{IsComplete}
use Rattle.ae_state.specs.Fitting.{FitsStore}
use Rattle.ae_state.specs.Names.{assumed_in, terms_now, system_now}
use Rattle.ae_sat.specs.Marked.{atoms}
use Rattle.ae_sat.specs.Standing.{IsOneOf}
use Rattle.ae_sat.proofs.Deriving.{in_clause}
use Rattle.ae_sat.proofs.Saturating.{atoms_stand}
use Rattle.ae_open_states.specs.Choices.{IsChoiceOf}
use Rattle.ae_open_states.specs.Finished.{IsFinished}
use Rattle.ae_open_states.specs.Shown.{shown}
use Rattle.ae_open_states.proofs.Saturated.{saturated}
use Rattle.ae_goal_search.specs.Started.{IsStarted}
use Rattle.ae_goal_search.specs.Ended.{IsSettled}
use Rattle.ae_goal_search.proofs.Begun.{same_signature, chosen}
use Rattle.ae_writable.specs.Numbers.{HasLowestNumerals}
use Rattle.ae_writable.specs.Writable.{IsWritableRule, IsWritableState}
use Rattle.ae_writable_answers.proofs.Settled.{state_writable}

module _ (p : Problem) (g : ℕ) (lines : List ClauseLine) (clauses : List Clause) (s : Stored) (start : IsStarted p g lines clauses s) (t : List Assigned) (now : List Clause) (o : Holding)
    (settled : IsSettled p g s clauses t now) (fits : FitsStore o s) (told : assumed_in o ≡ atoms t) (complete : IsComplete o × (terms_now o ≡ terms_in s)) where
  signature_of : p.signature ≡ o.signature
  signature_of = same_signature p g lines clauses s start ∙ fits.terms.signature

  sorted : (l : Lit) → Contains (literals (assumed_in o)) l → formula_ok o.signature l.formula ≡ true
  sorted l h =
      subst (λ (sig : Signature). formula_ok sig l.formula ≡ true) signature_of
      (atoms_stand (λ (m : Lit). formula_ok p.signature m.formula ≡ true) 0 t
      (λ j lt. let k = in_clause t now settled.lawful settled.decided j lt in settled.over.sorted (clause now k.0) (at t j).lit (k.0, k.1, refl) k.2) l
      (subst (λ (ts : List Tagged). Contains (literals ts) l) told h))

  name_chosen : (n : ℕ) (u : Term) (c : Clause) → IsName (system_now o) n u → exhaustion p.signature u ≡ Some c → IsChoiceOf p.signature u u ⊎ IsOneOf now c
  name_chosen n u c e x =
      elim (chosen p g lines clauses s start u c (contains_at (terms_in s) n u (ap (λ (ts : List Term). slice_get ts n) (sym complete.1) ∙ e)) x) as (λ _. IsChoiceOf p.signature u u ⊎ IsOneOf now c) [
        | inl k ↦ inl k
        | inr i ↦ inr (settled.kept c i)
      ]

  finished : IsFinished p g s t now (system_now o)
  finished = record {
    not_varied = start.reach.not_varied;
    firsts = settled.firsts;
    over = settled.over;
    lawful = settled.lawful;
    decided = settled.decided;
    all_true = settled.all_true;
    named = settled.named;
    names = complete.1;
    choices = name_chosen;
    completed = subst (λ (sig : Signature). IsCompleted sig (system_now o)) (sym signature_of) complete.0.completed;
    satisfied = subst (λ (y : Signature × List Tagged). Satisfies y.0 (system_now o) (literals y.1)) (λ i. (sym signature_of i, told i)) (complete.0.satisfied sorted);
  }

  pub shows_saturated : (bound : ℕ) → IsSaturated p g (shown t (system_now o)) bound
  shows_saturated bound = saturated p g s t now (system_now o) finished bound

  pub shows_writable : HasLowestNumerals p → AllByRecursion (IsWritableRule o.signature) (system_now o).rules → IsWritableState p.signature (shown t (system_now o))
  shows_writable low rules =
      state_writable p g low lines clauses s start t now settled (system_now o) complete.1
      (subst (λ (sig : Signature). AllByRecursion (IsWritableRule sig) (system_now o).rules) (sym signature_of) rules)
