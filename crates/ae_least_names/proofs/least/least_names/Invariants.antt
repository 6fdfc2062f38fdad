use Rattle.std.proofs.Common.{◌≡◌, length}
use Rattle.ae_least_names.specs.Buckets.{AreMet}
use Rattle.ae_least_names.proofs.least.least_names.Given as goal

abbrev pub invariant-loop-name : goal.invariant-loop-name
invariant-loop-name l = (length l.buckets.items ≡ l.values.taken) × (length l.reps.items ≡ l.name) × AreMet l.values l.reps.items l.buckets.items
