use Rattle.std.proofs.Common.{take, map}
use Rattle.std.specs.BTreeSet.{keys}
use Rattle.ae_just.specs.Inner.Pending.{AreJoined}
use Rattle.ae_just.proofs.needed.add_parts.Given as goal

abbrev pub invariant-loop-part : goal.invariant-loop-part
invariant-loop-part l = AreJoined (keys l.fn.pending) (map (λ p. p.line) (take l.part-index l.parts)) (keys l.pending)
