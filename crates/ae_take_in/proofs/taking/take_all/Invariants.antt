use Rattle.std.specs.Prelude.{◌≡◌, ◌≤◌, length}
use Rattle.ae_store.specs.Growing.{IsFront}
use Rattle.ae_store.specs.Shapes.{shapes}
use Rattle.ae_store.specs.Terms.{terms}
use Rattle.ae_just.specs.Steps.{Fits}
use Rattle.ae_value_table.specs.Versions.{Lasts}
use Rattle.ae_take_in.specs.Inner.Taking.{AreTakenTo}
use Rattle.ae_take_in.proofs.taking.take_all.Given as goal

abbrev pub invariant-loop-name : goal.invariant-loop-name
invariant-loop-name l = record {
  fits : Fits l.store.signature (terms (shapes l.store.nodes)) l.justs;
  front : IsFront l.initial.justs l.justs;
  rest : l.values ≡ record l.initial.values { rows = l.values.rows; leaves = l.values.leaves; justs = l.values.justs };
  lasts : Lasts l.initial.values l.values;
  from : l.initial.values.taken ≤ l.name;
  upto : l.name ≤ length l.store.nodes;
  taken : AreTakenTo l.store.signature (terms (shapes l.store.nodes)) l.initial.justs l.justs l.initial.values l.values l.initial.values.taken l.name;
}
