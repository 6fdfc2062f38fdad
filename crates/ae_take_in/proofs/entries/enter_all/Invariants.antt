use Rattle.std.specs.Prelude.{◌≡◌, ◌-◌, length}
use Rattle.ae_store.specs.Growing.{IsFront}
use Rattle.ae_store.specs.Shapes.{shapes}
use Rattle.ae_store.specs.Terms.{terms}
use Rattle.ae_value_table.specs.Versions.{Lasts}
use Rattle.ae_patterns.specs.Patterns.{AreEntriesOf}
use Rattle.ae_take_in.proofs.entries.enter_all.Given as goal

abbrev pub invariant-names : goal.invariant-names
invariant-names l = record {
  entries : AreEntriesOf l.store.signature (terms (shapes l.store.nodes)) l.values.entries;
  front : IsFront l.initial.values.entries l.values.entries;
  others : l.values ≡ record l.initial.values { entries = l.values.entries };
  lasts : Lasts l.initial.values l.values;
}

abbrev pub decreases-names : goal.decreases-names
decreases-names l = l.end - length l.values.entries
