use Rattle.std.specs.Prelude.{◌≡◌, [], ◌∷◌, take}
use Rattle.ae_store.specs.Growing.{IsFront}
use Rattle.ae_store.specs.Shapes.{shapes}
use Rattle.ae_store.specs.Terms.{terms}
use Rattle.ae_just.specs.Steps.{Fits}
use Rattle.ae_value_table.specs.Versions.{Lasts}
use Rattle.ae_values.specs.Inner.Leading.{AreLed}
use Rattle.ae_values.proofs.leaves.lead_all.Given as goal

abbrev pub invariant-loop-follower : goal.invariant-loop-follower
invariant-loop-follower l = record {
  fits : Fits l.store.signature (terms (shapes l.store.nodes)) l.justs;
  front : IsFront l.initial.justs l.justs;
  others : l.values ≡ record l.initial.values { leaves = l.values.leaves; justs = l.values.justs };
  lasts : Lasts l.initial.values l.values;
  led : AreLed l.initial.justs l.justs l.leaf (l.just ∷ []) l.initial.values l.values (take l.follower-index l.followers);
}
