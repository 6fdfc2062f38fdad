use Rattle.ae_monoid.specs.Rules.{rule_at}
use Rattle.ae_monoid.specs.Changes.{IsReducible}
use Rattle.ae_monoid.proofs.Listings.{AreListed}
use Rattle.ae_monoid.proofs.rules.Rules.reducible.Given as goal

abbrev pub invariant-loop-number : goal.invariant-loop-number
invariant-loop-number g l = AreListed (λ n. IsReducible (λ m. rule_at l.self m) n) l.number l.numbers.items
