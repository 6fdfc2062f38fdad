use Rattle.std.proofs.Common.{◌≡◌, map, take}
use Rattle.ae_types.specs.Substitutions.{put}
use Rattle.ae_types.specs.Bound.{bound}
use Rattle.ae_types.specs.Inner.Enters.{sheet}
use Rattle.ae_types.proofs.bindings.+apply_in.Given as goal

abbrev pub invariant-loop-arg : goal.invariant-loop-arg
invariant-loop-arg l = l.sorts ≡ map (put (bound (sheet l.graph))) (take l.arg-index l.arg-items)
