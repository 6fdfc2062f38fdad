use Rattle.std.proofs.Common.{length}
use Rattle.ae_multiset.specs.Ranks.{rank}
use Rattle.ae_monoid.specs.Rules.{rule_at}
use Rattle.ae_monoid.specs.Inner.Bounds.{bound_of}
use Rattle.ae_monoid.proofs.Turning.{IsReducing}
use Rattle.ae_monoid.proofs.rules.Rules.reduce_counted.Given as goal

abbrev pub invariant-steps : goal.invariant-steps
invariant-steps g l = IsReducing (λ n. rule_at l.self n) l.self.next l.symbol l.names l.justs l.now.items

abbrev pub decreases-steps : goal.decreases-steps
decreases-steps g l = rank (length l.names) (bound_of (λ n. rule_at l.self n) l.self.next l.names) l.now.items
