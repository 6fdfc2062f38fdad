use Rattle.std.specs.Prelude.{◌≡◌, map, take}
use Rattle.ae_sweeps.specs.Given.{rep_in}
use Rattle.ae_sweeps.proofs.gaps.representatives.Given as goal

abbrev pub invariant-loop-name : goal.invariant-loop-name
invariant-loop-name l = l.each.items ≡ map (rep_in l.reps) (take l.name-index l.names)
