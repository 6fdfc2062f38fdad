use Rattle.std.proofs.Common.{arith, ◌<◌, ◌≤◌, ◌∙◌, length}
use Rattle.ae_elab.specs.Environments.{locals}
use Rattle.ae_expressions.proofs.BlockLaws.{left_next, left_whole}
use Rattle.ae_expressions.proofs.blocks.leave_block.Goals as goal

pub loop-place-preserved : goal.loop-place-preserved
loop-place-preserved c = record {
  nodes = c.leave.ensures.nodes ∙ c.loop-place.invariant.nodes;
  locals = λ inner outer e n. (let within : c.loop-place.place < length inner = omega (arith, n, c.loop-place-test.true) in
      left_next (locals c.loop-place.environment) (locals c.leave.new.self) inner outer c.loop-place.place c.leave.ensures.locals within (c.loop-place.invariant.locals inner outer e n));
}

pub returns-clause-locals : goal.returns-clause-locals
returns-clause-locals c inner outer e n =
    let done : length inner ≤ c.loop-place.place = omega (arith, n, c.loop-place-test.false) in
    left_whole (locals c.loop-place.environment) inner outer c.loop-place.place done (c.loop-place.invariant.locals inner outer e n)
