use Rattle.std.proofs.Common.{◌≡◌, take, map}
use Rattle.ae_finding.specs.Nodes.{made}
use Rattle.ae_finding.proofs.testing.+made.Given as goal

abbrev pub invariant-each_made-loop-term : goal.invariant-each_made-loop-term
invariant-each_made-loop-term l = l.copies ≡ map (made l.sorts l.terms) (take l.term-index l.all)
