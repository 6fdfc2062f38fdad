use Rattle.ae_linear.proofs.Links.{AreLinking}
use Rattle.ae_linear.proofs.occurrences.link_all.Given as goal

abbrev pub invariant-loop-row : goal.invariant-loop-row
invariant-loop-row l = AreLinking l.initial.links.items l.links.items l.initial.head l.head l.rows l.row-index
