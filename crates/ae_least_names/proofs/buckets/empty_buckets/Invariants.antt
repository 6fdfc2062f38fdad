use Rattle.std.proofs.Common.{◌≡◌, length}
use Rattle.ae_least_names.proofs.buckets.empty_buckets.Given as goal

abbrev pub invariant-loop : goal.invariant-loop
invariant-loop l = length l.buckets.items ≡ l.counter
