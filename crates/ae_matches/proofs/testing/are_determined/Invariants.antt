use Rattle.std.proofs.Common.{◌≡◌, true}
use Rattle.std.specs.List.{list_all}
use Rattle.ae_matches.specs.Candidates as spec
use Rattle.ae_journal.specs.Triggers.{numbers_below}
use Rattle.ae_matches.proofs.testing.are_determined.Given as goal

abbrev pub invariant-loop-number : goal.invariant-loop-number
invariant-loop-number l = list_all (spec.is_determined l.terms l.sorts) (numbers_below l.number) ≡ true
