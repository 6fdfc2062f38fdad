use Rattle.std.proofs.Common.{◌≡◌, drop}
use Rattle.ae_elab.specs.Elaboration.{value_at}
use Rattle.ae_elaboration.proofs.elaboration.value_at.Given as goal

abbrev pub invariant-loop-i : goal.invariant-loop-i
invariant-loop-i l = value_at l.place (drop l.i l.places) (drop l.i l.values) ≡ value_at l.place l.places l.values
