use Rattle.ae_store.specs.Shapes.{shapes}
use Rattle.ae_store.specs.Terms.{terms}
use Rattle.ae_multiset_steps.proofs.Places.{IsRenaming}
use Rattle.ae_multiset_steps.proofs.renaming.renamed.Given as goal

abbrev pub invariant-loop-i : goal.invariant-loop-i
invariant-loop-i l = IsRenaming l.store.signature (terms (shapes l.store.nodes)) l.fn.justs l.justs l.symbol l.from l.to l.steps l.at l.i l.longer l.others
