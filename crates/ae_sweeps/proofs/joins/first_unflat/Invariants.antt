use Rattle.std.specs.Prelude.{◌<◌, ℕ}
use Rattle.ae_sweeps.specs.Given.{rep_in, entries_of}
use Rattle.ae_sweeps.specs.Inner.Parts.{IsNameSwept}
use Rattle.ae_sweeps.proofs.joins.first_unflat.Given as goal

abbrev pub invariant-loop-name : goal.invariant-loop-name
invariant-loop-name l = (n : ℕ) → n < l.name → IsNameSwept l.store.signature l.store.nodes (rep_in l.reps) (entries_of l.rules) n
