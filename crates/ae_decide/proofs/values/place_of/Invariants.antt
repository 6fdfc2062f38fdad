use Rattle.std.proofs.Common.{◌≡◌, drop}
use Rattle.ae_decide.specs.Values.{place_from}
use Rattle.ae_decide.proofs.values.place_of.Given as goal

abbrev pub invariant-loop-i : goal.invariant-loop-i
invariant-loop-i l = place_from l.i (drop l.i l.terms) l.wanted ≡ place_from 0 l.terms l.wanted
