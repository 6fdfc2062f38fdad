use Rattle.std.proofs.Common.{◌≡◌, ◌≤◌}
use Rattle.ae_elab.specs.Weights.{missing}
use Rattle.ae_sizes.proofs.stands.missing.Given as goal

abbrev pub invariant-loop-place : goal.invariant-loop-place
invariant-loop-place l = (l.absent ≤ l.place) × (l.absent ≡ missing l.place l.places)
