use Rattle.std.proofs.Common.{◌≡◌, map, take}
use Rattle.ae_types.specs.Inner.Graphs.{origin}
use Rattle.ae_types.proofs.cycles.originals.Given as goal

abbrev pub invariant-loop-place : goal.invariant-loop-place
invariant-loop-place l = l.sorts ≡ map (origin l.nodes) (take l.place-index l.places)
