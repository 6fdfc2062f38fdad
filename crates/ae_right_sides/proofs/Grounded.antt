-- New steps of rules rest on assumed literals alone.
use Rattle.std.specs.Prelude.{ℕ, ◌⊎◌, List}
use Rattle.std.proofs.Common.{inl, inr}
use Rattle.ae_core.specs.declared.problems.AcSymbol.{AcSymbol}
use Rattle.ae_pmap.specs.Forest.{present}
use Rattle.ae_store.specs.Growing.{IsFront}
use Rattle.ae_store.specs.Parts.{IsIn}
use Rattle.ae_just.specs.declared.steps.Step.{Step}
use Rattle.ae_rule_steps.specs.Said.{IsJustOf, RestsOnRules}
use Rattle.ae_equation_turns.specs.Said.{RestsOnHeld}
use Rattle.ae_conflicts.specs.Saying.{RestsOnAssumed}
use Rattle.ae_state.specs.declared.holding.Holding.{Holding}
use Rattle.ae_state.specs.Names.{all_terms}
use Rattle.ae_state.specs.Right.{IsReason, of_rule, IsRight}
use Rattle.ae_state.proofs.Reasons.{reason_within}
use Rattle.ae_turns.proofs.DroppedRules.{kept_in}
use Rattle.ae_representatives.proofs.MoreSteps.{rests_by_these, rests_more}

module _ (o : Holding) (right : IsRight o) where
  just_rests : (u : AcSymbol) (p : ℕ) → IsJustOf (kept_in o.equations) u p → RestsOnAssumed (all_terms o) o.justs (present o.assumed) p
  just_rests u p j = right.grounded p (of_rule j.number j.rule j.there j.is)

  module _ (new : List Step) where
    -- the steps of what is held, where steps came behind
    pub reasons_rest : IsFront o.justs new → (id : ℕ) → IsReason o id → RestsOnAssumed (all_terms o) new (present o.assumed) id
    reasons_rest front id r = rests_more o new front right.steps id (reason_within o right id r) (right.grounded id r)

    -- a step that rests on justifications of rules
    pub rules_rest : (u : AcSymbol) (id : ℕ) → RestsOnRules (kept_in o.equations) u o.justs new id → RestsOnAssumed (all_terms o) new (present o.assumed) id
    rules_rest u id r = rests_by_these o new r.given id r.rests (λ p m. just_rests u p (r.are p m))

    -- a step that rests on these and on given steps
    pub held_rest : (u : AcSymbol) (given : List ℕ) (id : ℕ) → RestsOnHeld (kept_in o.equations) u given o.justs new id
        → ((p : ℕ) → IsIn p given → RestsOnAssumed (all_terms o) o.justs (present o.assumed) p) → RestsOnAssumed (all_terms o) new (present o.assumed) id
    held_rest u given id r h = rests_by_these o new r.on id r.rests (λ p m. by_case p (r.are p m))
      where
        by_case : (p : ℕ) → IsIn p given ⊎ IsJustOf (kept_in o.equations) u p → RestsOnAssumed (all_terms o) o.justs (present o.assumed) p
        by_case p (inl m) = h p m
        by_case p (inr j) = just_rests u p j
