use Rattle.std.proofs.Common.{◌≡◌, take}
use Rattle.ae_trim.specs.Axioms.{axioms_in}
use Rattle.ae_trim.proofs.axioms.named_axioms.Given as goal

abbrev pub invariant-loop-line : goal.invariant-loop-line
invariant-loop-line l = l.places.items ≡ axioms_in (take l.line-index l.lines)
