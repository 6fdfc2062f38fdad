use Rattle.std.proofs.Common.{◌≡◌, min}
use Rattle.ae_elab.specs.Weights.{pairs}
use Rattle.ae_sizes.proofs.stands.pairs.Given as goal

abbrev pub invariant-loop-n : goal.invariant-loop-n
invariant-loop-n l = l.pairs ≡ min (pairs l.n) 18446744073709551615
