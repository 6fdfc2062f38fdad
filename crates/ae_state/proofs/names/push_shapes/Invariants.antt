use Rattle.std.specs.Prelude.{◌≡◌, length}
use Rattle.ae_store.specs.Growing.{IsFront}
use Rattle.ae_store.specs.Terms.{terms, Keeps}
use Rattle.ae_theory.specs.Names.{terms_in}
use Rattle.ae_state.proofs.names.push_shapes.Given as goal

abbrev pub invariant-loop-name : goal.invariant-loop-name
invariant-loop-name l = Keeps (terms l.shapes) (terms_in l.store) × IsFront l.initial.shapes l.shapes × (length l.shapes ≡ l.name)
