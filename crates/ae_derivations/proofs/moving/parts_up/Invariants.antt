use Rattle.std.proofs.Common.{◌≡◌, map, take}
use Rattle.ae_derivations.specs.Inner.Moved.{part_moved}
use Rattle.ae_derivations.proofs.moving.parts_up.Given as goal

abbrev pub invariant-loop-part : goal.invariant-loop-part
invariant-loop-part l = l.sums ≡ map (part_moved l.by) (take l.part-index l.parts)
