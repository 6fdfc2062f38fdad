use Rattle.ae_linear.proofs.Links.{AreTaken}
use Rattle.ae_linear.proofs.occurrences.link_each.Given as goal

abbrev pub invariant-loop-part : goal.invariant-loop-part
invariant-loop-part l = AreTaken l.initial.heads l.heads l.initial.links.items l.links.items l.parts l.rows l.part-index
