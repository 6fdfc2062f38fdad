use Rattle.ae_store.specs.Shapes.{shapes}
use Rattle.ae_store.specs.Terms.{terms}
use Rattle.ae_pmap.specs.Forest.{present}
use Rattle.ae_conflicts.specs.Inner.Joining.{AreGathered}
use Rattle.ae_conflicts.proofs.gathering.gather_all.Given as goal

abbrev pub invariant-loop-at : goal.invariant-loop-at
invariant-loop-at l = AreGathered l.store.signature (terms (shapes l.store.nodes)) l.justs (present l.assumed) l.positive l.negative l.steps l.at l.gathered
