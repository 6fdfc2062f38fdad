use Rattle.std.proofs.Common.{◌≡◌, take, map}
use Rattle.ae_store.specs.Shapes.{shapes}
use Rattle.ae_store.specs.Terms.{terms, named}
use Rattle.ae_made_instances.proofs.lines.terms_of.Given as goal

abbrev pub invariant-loop-name : goal.invariant-loop-name
invariant-loop-name l = l.found ≡ map (named (terms (shapes l.store.nodes))) (take l.name-index l.name-items)
