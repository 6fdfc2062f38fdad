use Rattle.std.specs.Prelude.{◌≡◌, take, length}
use Rattle.ae_store.specs.Growing.{IsFront}
use Rattle.ae_store.specs.Shapes.{shapes}
use Rattle.ae_store.specs.Terms.{terms}
use Rattle.ae_just.specs.Steps.{Fits}
use Rattle.ae_equal_steps.specs.Inner.Pairs.{AreEqualBy}
use Rattle.ae_equal_steps.proofs.equal.+equal_patterns.Given as goal

abbrev pub invariant-equal_fields-loop-i : goal.invariant-equal_fields-loop-i
invariant-equal_fields-loop-i l = record {
  fits : Fits l.store.signature (terms (shapes l.store.nodes)) l.justs;
  front : IsFront l.initial.justs l.justs;
  many : length l.right ≡ length l.left;
  equal : AreEqualBy l.initial.justs l.justs l.values (take l.i l.left) (take l.i l.right) l.steps;
}
