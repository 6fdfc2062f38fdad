use Rattle.std.proofs.Common.{◌≡◌, ◌∙◌, [], subst, inl, inr, below_more}
use Rattle.std.proofs.lemmas.List.{get_or_default}
use Rattle.ae_rules.specs.Clauses.{Clause}
use Rattle.ae_explain.specs.Trail.{clause}
use Rattle.ae_propagation.specs.Settled.{HasTrue, AreOpen, IsOpenAlone}
use Rattle.ae_propagation.specs.Inner.Scan.{IsIdle}
use Rattle.ae_propagation.proofs.settle.find_work.Goals.{in-True, in-Open}
use Rattle.ae_propagation.proofs.settle.find_work.Goals as goal

pub returns-in-Unit : goal.returns-in-Unit
returns-in-Unit c =
    let e : c.as_slice.result.now ≡ clause c.args.clauses.now c.loop-k.k =
    c.as_slice.ensures ∙ (c.index-clauses-k.is ∙ get_or_default c.args.clauses.now c.loop-k.k c.index-clauses-k.result [] c.loop-k-test.true) in
    (c.loop-k-test.true, subst (λ (w : Clause). IsOpenAlone c.args.trail.now.assigned w c.in-Unit.p) e c.in-Unit.ensures)

pub loop-k-preserved : goal.loop-k-preserved
loop-k-preserved c =
    let e : c.as_slice.result.now ≡ clause c.args.clauses.now c.loop-k.k =
    c.as_slice.ensures ∙ (c.index-clauses-k.is ∙ get_or_default c.args.clauses.now c.loop-k.k c.index-clauses-k.result [] c.loop-k-test.true) in
    below_more _ _ c.loop-k.invariant (elim c.match-state_of.branch as (λ _. IsIdle c.args.trail.now.assigned (clause c.args.clauses.now c.loop-k.k)) [
      | in-True w ↦ inl (subst (HasTrue c.args.trail.now.assigned) e w.in-True.ensures)
      | in-Open w ↦ inr (subst (AreOpen c.args.trail.now.assigned) e w.in-Open.ensures)
    ])
