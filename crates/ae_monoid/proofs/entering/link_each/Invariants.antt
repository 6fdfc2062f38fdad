use Rattle.ae_monoid.proofs.Entered.{IsLinking}
use Rattle.ae_monoid.proofs.entering.link_each.Given as goal

abbrev pub invariant-loop-i : goal.invariant-loop-i
invariant-loop-i l = IsLinking l.initial.heads l.heads l.initial.links.items l.links.items l.names l.number l.i
