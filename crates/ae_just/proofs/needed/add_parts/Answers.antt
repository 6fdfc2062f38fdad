use Rattle.std.specs.BTreeSet.{keys}
use Rattle.ae_core.specs.declared.proofs.Scaled.{Scaled}
use Rattle.ae_just.proofs.NeededLaws.{joined_turn_by}
use Rattle.ae_just.proofs.needed.add_parts.Goals as goal

pub loop-part-preserved : goal.loop-part-preserved
loop-part-preserved c =
    joined_turn_by (λ (p : Scaled). p.line) (keys c.args.pending.now) (keys c.loop-part.pending) (keys c.insert.new.self) c.args.parts.now c.loop-part.part-index _ c.loop-part-test.true c.loop-part.invariant c.in_ok-insert.ensures.keys
