use Rattle.std.proofs.Common.{◌≡◌, drop}
use Rattle.ae_decide.specs.Names.{are_apart}
use Rattle.ae_decide.proofs.names.are_apart.Given as goal

abbrev pub invariant-loop-i : goal.invariant-loop-i
invariant-loop-i l = are_apart (drop l.i l.terms) ≡ are_apart l.terms
