-- What the steps of overlaps rest on.
use Rattle.std.specs.Prelude.{ℕ, ◌⊎◌, ◌≡◌, List, [], ◌∷◌}
use Rattle.std.proofs.Common.{sym, subst, inl, inr}
use Rattle.ae_conflicts.specs.Saying.{RestsOnAssumed}
use Rattle.ae_equations.specs.declared.queue.Waiting.{Waiting}
use Rattle.ae_core.specs.declared.terms.Term.{Term}
use Rattle.ae_core.specs.declared.problems.Signature.{Signature}
use Rattle.ae_just.specs.declared.steps.Step.{Step}
use Rattle.ae_multiset_steps.specs.Equating.{RestsOnThese}
use Rattle.ae_pmap.specs.Forest.{present}
use Rattle.ae_store.specs.Parts.{IsIn}
use Rattle.ae_store.proofs.PartLaws.{in_none, in_pushed, is_one}
use Rattle.ae_state.specs.declared.holding.Holding.{Holding}
use Rattle.ae_state.specs.Names.{all_terms}
use Rattle.ae_state.specs.Right.{IsRight, of_rule}
use Rattle.ae_turns.proofs.DroppedRules.{kept_in}
use Rattle.ae_representatives.proofs.MoreSteps.{rests_by_these}
use Rattle.ae_gaps.specs.Inner.Overlapping.{IsOverlapSaid}

-- on nothing
pub rests_on_nothing : (o : Holding) (js : List Step) (id : ℕ) → RestsOnThese o.justs js id [] → RestsOnAssumed (all_terms o) js (present o.assumed) id
rests_on_nothing o js id r = rests_by_these o js [] id r (λ p i. absurd (in_none p i))

-- on the steps of the two rules
pub overlap_rests : (o : Holding) (js : List Step) (sig : Signature) (ts : List Term) (m n : ℕ) (w : Waiting) → IsRight o → IsOverlapSaid sig ts o.justs js (kept_in o.equations) m n w
    → RestsOnAssumed (all_terms o) js (present o.assumed) w.step
overlap_rests o js sig ts m n w right s = rests_by_these o js (s.pair).justs w.step s.rests each
  where
    by_place : (p : ℕ) → IsIn p (((s.overlap).first).just ∷ []) ⊎ (p ≡ ((s.overlap).second).just) → RestsOnAssumed (all_terms o) o.justs (present o.assumed) p
    by_place p (inl i) = right.grounded p (of_rule m (s.overlap).first (s.overlap).first_there (sym (is_one p ((s.overlap).first).just i)))
    by_place p (inr e) = right.grounded p (of_rule n (s.overlap).second (s.overlap).second_there (sym e))

    each : (p : ℕ) → IsIn p (s.pair).justs → RestsOnAssumed (all_terms o) o.justs (present o.assumed) p
    each p i = by_place p (in_pushed p ((s.overlap).second).just (((s.overlap).first).just ∷ []) (subst (IsIn p) ((s.overlap).deduced).justs i))
