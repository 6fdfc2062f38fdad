use Rattle.std.proofs.Common.{ℕ, ◌<◌, length}
use Rattle.ae_owed_instances.specs.Inner.Passing.{HaveNone}
use Rattle.ae_owed_instances.proofs.finding.first_owed.Given as goal

abbrev pub invariant-loop-number : goal.invariant-loop-number
invariant-loop-number l = (n : ℕ) → n < l.number → HaveNone l.search n (length l.search.owners)
