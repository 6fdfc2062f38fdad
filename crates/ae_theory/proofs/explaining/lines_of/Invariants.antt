use Rattle.std.specs.Prelude.{◌≡◌, ◌<◌, length, drop, slice_get, Some}
use Rattle.ae_theory.specs.Names.{terms_in}
use Rattle.ae_theory.proofs.Ways.{Walks}
use Rattle.ae_theory.proofs.explaining.lines_of.Given as goal

-- the lines lead from the start to where the rest of the way begins
abbrev pub invariant-loop-hyp : goal.invariant-loop-hyp
invariant-loop-hyp l = (0 < length l.lines) × Walks l.store l.nodes l.hops l.hyps l.from l.start l.lines (drop l.hyp l.hops)
    × (slice_get (terms_in l.store) l.from ≡ Some l.start)
