use Rattle.std.specs.Prelude.{◌≡◌, take}
use Rattle.ae_store.specs.Growing.{IsFront}
use Rattle.ae_store.specs.Shapes.{shapes}
use Rattle.ae_store.specs.Terms.{terms}
use Rattle.ae_just.specs.Steps.{Fits}
use Rattle.ae_value_table.specs.Versions.{Lasts}
use Rattle.ae_values.specs.Inner.Putting.{AreRestated}
use Rattle.ae_values.proofs.numbers.restate_all.Given as goal

abbrev pub invariant-loop-change : goal.invariant-loop-change
invariant-loop-change l = record {
  fits : Fits l.store.signature (terms (shapes l.store.nodes)) l.justs;
  front : IsFront l.initial.justs l.justs;
  others : l.values ≡ record l.initial.values { justs = l.values.justs };
  lasts : Lasts l.initial.values l.values;
  restated : AreRestated l.store.signature (terms (shapes l.store.nodes)) l.initial.justs l.justs l.real l.initial.values l.values (take l.change-index l.changes);
}
