use Rattle.ae_sweeps.specs.Given.{rep_in}
use Rattle.ae_literals.specs.Inner.Seen.{AreSeen}
use Rattle.ae_literals.proofs.constructors.first_mixed.Given as goal

abbrev pub invariant-loop-name : goal.invariant-loop-name
invariant-loop-name l = AreSeen l.store.signature l.store.nodes (rep_in l.reps) l.seen.items l.name
