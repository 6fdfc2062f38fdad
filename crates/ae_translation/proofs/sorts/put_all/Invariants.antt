use Rattle.std.proofs.Common.{◌≡◌, map, take}
use Rattle.ae_types.specs.Bound.{bound}
use Rattle.ae_types.specs.Substitutions.{put}
use Rattle.ae_translation.proofs.sorts.put_all.Given as goal

abbrev pub invariant-loop-sort : goal.invariant-loop-sort
invariant-loop-sort l = l.all ≡ map (put (bound l.bindings)) (take l.sort-index l.sorts)
