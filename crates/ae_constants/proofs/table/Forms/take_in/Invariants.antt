use Rattle.std.proofs.Common.{◌-◌, length}
use Rattle.ae_store.specs.Growing.{IsFront}
use Rattle.ae_store.specs.Shapes.{shapes}
use Rattle.ae_store.specs.Terms.{terms}
use Rattle.ae_constants.specs.Tables.{AreForms}
use Rattle.ae_constants.proofs.table.Forms.take_in.Given as goal

abbrev pub invariant-names : goal.invariant-names
invariant-names l = record {
  fits : AreForms (terms (shapes l.store.nodes)) l.self.forms;
  kept : IsFront l.initial.self.forms l.self.forms;
}

abbrev pub decreases-names : goal.decreases-names
decreases-names l = l.end - length l.self.forms
