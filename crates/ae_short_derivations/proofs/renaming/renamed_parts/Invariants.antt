use Rattle.std.proofs.Common.{◌≡◌, map, take}
use Rattle.ae_just.specs.Steps.{renamed}
use Rattle.ae_short_derivations.specs.Inner.Keeping.{place_of}
use Rattle.ae_short_derivations.proofs.renaming.renamed_parts.Given as goal

abbrev pub invariant-loop-part : goal.invariant-loop-part
invariant-loop-part l = l.renamed ≡ map (renamed (place_of l.places.needed.now l.places.kept.now)) (take l.part-index l.parts)
