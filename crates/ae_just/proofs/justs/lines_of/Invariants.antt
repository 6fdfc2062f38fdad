use Rattle.ae_store.specs.Shapes.{shapes}
use Rattle.ae_store.specs.Terms.{terms}
use Rattle.ae_just.specs.Needed.{literals}
use Rattle.ae_just.specs.Inner.Emitting.{IsEmitted}
use Rattle.ae_just.proofs.justs.lines_of.Given as goal

abbrev pub invariant-loop-number : goal.invariant-loop-number
invariant-loop-number l =
    IsEmitted l.store.signature (terms (shapes l.store.nodes)) l.steps l.needed (literals (terms (shapes l.store.nodes)) l.steps l.needed) l.number-index l.lines l.count
