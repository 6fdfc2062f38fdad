use Rattle.ae_store.specs.Shapes.{shapes}
use Rattle.ae_store.specs.Terms.{terms}
use Rattle.ae_short_derivations.specs.Inner.Keeping.{AreKept}
use Rattle.ae_short_derivations.proofs.shortening.shortened.Given as goal

abbrev pub invariant-loop-number : goal.invariant-loop-number
invariant-loop-number l = AreKept l.store.signature (terms (shapes l.store.nodes)) l.justs l.step l.all l.number-index l.kept l.numbers
