use Rattle.std.proofs.Common.{◌≡◌, drop}
use Rattle.ae_multiset.specs.Multisets.{minus}
use Rattle.ae_decide.proofs.overlaps.minus.Given as goal

abbrev pub invariant-loop-name : goal.invariant-loop-name
invariant-loop-name l = minus l.rest (drop l.name-index l.taken) ≡ minus l.names l.taken
