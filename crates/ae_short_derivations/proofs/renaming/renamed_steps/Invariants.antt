use Rattle.std.proofs.Common.{◌≡◌, map, take}
use Rattle.ae_short_derivations.specs.Inner.Keeping.{place_of}
use Rattle.ae_short_derivations.proofs.renaming.renamed_steps.Given as goal

abbrev pub invariant-loop-step : goal.invariant-loop-step
invariant-loop-step l = l.renamed ≡ map (place_of l.places.needed.now l.places.kept.now) (take l.step-index l.steps)
