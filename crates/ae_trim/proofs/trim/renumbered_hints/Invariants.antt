use Rattle.std.proofs.Common.{◌≡◌, map, take, slice_index}
use Rattle.ae_trim.proofs.trim.renumbered_hints.Given as goal

abbrev pub invariant-loop-hint : goal.invariant-loop-hint
invariant-loop-hint l = l.renumbered ≡ map (slice_index l.numbers) (take l.hint-index l.hints)
