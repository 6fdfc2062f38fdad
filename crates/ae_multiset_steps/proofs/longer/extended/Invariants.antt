use Rattle.ae_store.specs.Shapes.{shapes}
use Rattle.ae_store.specs.Terms.{terms}
use Rattle.ae_multiset_steps.proofs.Extending.{IsExtending}
use Rattle.ae_multiset_steps.proofs.longer.extended.Given as goal

abbrev pub invariant-loop-name : goal.invariant-loop-name
invariant-loop-name l = IsExtending l.store.signature (terms (shapes l.store.nodes)) l.fn.justs l.justs l.symbol l.left l.right l.rest l.step l.at l.name-index l.longer l.others
