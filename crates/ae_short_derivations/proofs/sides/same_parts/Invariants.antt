use Rattle.std.specs.Prelude.{◌≡◌, take}
use Rattle.ae_short_derivations.proofs.sides.same_parts.Given as goal

abbrev pub invariant-loop-i : goal.invariant-loop-i
invariant-loop-i l = take l.i l.left ≡ take l.i l.right
