use Rattle.std.proofs.Common.{◌≡◌, map, take}
use Rattle.ae_typing.specs.Inner.Earlier.{earlier}
use Rattle.ae_typing.proofs.patterns.earlier_places.Given as goal

abbrev pub invariant-loop-place : goal.invariant-loop-place
invariant-loop-place l = l.all ≡ map (earlier l.end l.none) (take l.place-index l.places)
