use Rattle.std.specs.Prelude.{◌≡◌, ◌≤◌, length, take, fold}
use Rattle.std.specs.List.{flat_map}
use Rattle.ae_bounds.specs.Inner.Directions.{part_written}
use Rattle.ae_bounds.proofs.directions.hash_parts.Given as goal

abbrev pub invariant-loop-i : goal.invariant-loop-i
invariant-loop-i g l = (l.i ≤ length l.parts) × (l.state ≡ fold g.H.Hasher.write l.initial.state (flat_map part_written (take l.i l.parts)))
