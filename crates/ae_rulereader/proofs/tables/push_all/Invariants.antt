use Rattle.std.proofs.Common.{◌≡◌, ◌++◌, drop}
use Rattle.std.specs.List.{filter}
use Rattle.ae_rulereader.specs.Kinds.{of_kind}
use Rattle.ae_rulereader.proofs.tables.push_all.Given as goal

abbrev pub invariant-loop-n : goal.invariant-loop-n
invariant-loop-n l = l.out ++ filter (of_kind l.signature l.sorted) (drop l.n-index l.numbers) ≡ l.fn.out ++ filter (of_kind l.signature l.sorted) l.numbers
