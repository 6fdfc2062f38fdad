use Rattle.ae_store.specs.Shapes.{shapes}
use Rattle.ae_store.specs.Terms.{terms}
use Rattle.ae_bound_blocks.specs.Inner.Emitting.{AreEmitted}
use Rattle.ae_bound_blocks.proofs.emitting.emit.Given as goal

abbrev pub invariant-loop-place : goal.invariant-loop-place
invariant-loop-place l = AreEmitted l.store.signature (terms (shapes l.store.nodes)) l.real l.rows l.given l.marks l.place l.emitted
