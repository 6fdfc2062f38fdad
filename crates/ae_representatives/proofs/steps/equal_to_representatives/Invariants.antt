use Rattle.std.specs.Prelude.{take}
use Rattle.ae_base.specs.Relations.{Pairwise}
use Rattle.ae_just.specs.Steps.{Fits}
use Rattle.ae_store.specs.Growing.{IsFront}
use Rattle.ae_store.specs.Shapes.{shapes}
use Rattle.ae_store.specs.Terms.{terms}
use Rattle.ae_representatives.specs.Equal.{IsEqualTo}
use Rattle.ae_representatives.proofs.steps.equal_to_representatives.Given as goal

abbrev pub invariant-loop-name : goal.invariant-loop-name
invariant-loop-name l = record {
  fits : Fits l.store.signature (terms (shapes l.store.nodes)) l.justs;
  front : IsFront l.initial.justs l.justs;
  equal : Pairwise (IsEqualTo l.initial.justs l.justs l.values l.reps) (take l.name-index l.names) l.steps;
}
