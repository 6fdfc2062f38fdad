use Rattle.std.proofs.Common.{◌≡◌, take, false}
use Rattle.std.specs.List.{list_any}
use Rattle.ae_rules.specs.Matches.{term_has}
use Rattle.ae_matches.proofs.testing.occurs.Given as goal

abbrev pub invariant-loop-term : goal.invariant-loop-term
invariant-loop-term l = list_any (term_has l.number) (take l.term-index l.terms) ≡ false
