use Rattle.std.proofs.Common.{ℕ, ◌<◌, take}
use Rattle.std.specs.List.{Contains}
use Rattle.ae_trim.proofs.used.are_before.Given as goal

abbrev pub invariant-loop-other : goal.invariant-loop-other
invariant-loop-other l = (k : ℕ) → Contains (take l.other-index l.places) k → k < l.place
