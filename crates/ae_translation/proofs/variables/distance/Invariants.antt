use Rattle.std.proofs.Common.{◌≡◌, ◌+◌, drop}
use Rattle.ae_elab.specs.Elaboration.{distance}
use Rattle.ae_translation.proofs.variables.distance.Given as goal

abbrev pub invariant-loop-i : goal.invariant-loop-i
invariant-loop-i l = l.i + distance (drop l.i l.bound) l.variable ≡ distance l.bound l.variable
