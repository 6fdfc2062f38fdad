use Rattle.std.specs.BTreeSet.{keys}
use Rattle.ae_just.proofs.NeededLaws.{joined_turn}
use Rattle.ae_just.proofs.needed.add_steps.Goals as goal

pub loop-step-preserved : goal.loop-step-preserved
loop-step-preserved c =
    joined_turn (keys c.args.pending.now) (keys c.loop-step.pending) (keys c.insert.new.self) c.args.steps.now c.loop-step.step-index _ c.loop-step-test.true c.loop-step.invariant c.in_ok-insert.ensures.keys
