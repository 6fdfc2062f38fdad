use Rattle.std.proofs.Common.{◌≡◌, map, take}
use Rattle.ae_row_sides.specs.Inner.Sums.{opposite_part}
use Rattle.ae_row_sides.proofs.sides.opposite_parts.Given as goal

abbrev pub invariant-loop-part : goal.invariant-loop-part
invariant-loop-part l = l.all ≡ map opposite_part (take l.part-index l.parts)
