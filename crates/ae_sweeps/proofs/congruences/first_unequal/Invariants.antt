use Rattle.ae_sweeps.specs.Given.{rep_in}
use Rattle.ae_sweeps.specs.Inner.Entered.{AreEntered}
use Rattle.ae_sweeps.proofs.congruences.first_unequal.Given as goal

abbrev pub invariant-loop-name : goal.invariant-loop-name
invariant-loop-name l = AreEntered l.store.signature l.store.nodes (rep_in l.reps) l.table l.name
