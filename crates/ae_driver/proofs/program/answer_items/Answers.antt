use Rattle.std.proofs.Common.{ap, subst, arith}
use Rattle.ae_driver.specs.Inner.Endings.{PartEnds}
use Rattle.ae_driver.proofs.Answered.{nothing_yet, part_ends, part_done, rose_later}
use Rattle.ae_driver.proofs.program.answer_items.Goals as goal

pub loop-place-init : goal.loop-place-init
loop-place-init g c = (nothing_yet c.args.problem.now c.args.asked.limits (g.K.Sink.written c.args.sink.now), omega arith)

pub returns-in_default : goal.returns-in_default
returns-in_default g c =
    let p = c.args.problem.now in
    let a = g.K.Sink.written c.args.sink.now in
    let b = g.K.Sink.written c.loop-place.sink in
    let e = g.K.Sink.written c.answer_item.new.sink in
    record {
      ends = part_ends p c.args.asked.limits c.loop-place.place a b e c.answer_item.result (omega (arith, c.loop-place-test.true, c.len-place-end.ensures))
          c.loop-place.invariant.0 c.answer_item.ensures.ends (λ m. ap g.K.Sink.written (c.answer_item.ensures.memory m)) c.in_default.not-Done;
      write_fault = λ w. rose_later _ _ _ c.loop-place.invariant.1 (c.answer_item.ensures.write_fault w);
    }

pub loop-place-preserved : goal.loop-place-preserved
loop-place-preserved g c =
    let p = c.args.problem.now in
    let a = g.K.Sink.written c.args.sink.now in
    let b = g.K.Sink.written c.loop-place.sink in
    let e = g.K.Sink.written c.answer_item.new.sink in
    let ends = subst (λ s. PartEnds p c.args.asked.limits c.loop-place.place b e s) c.in-Done.is c.answer_item.ensures.ends in (
      part_done p c.args.asked.limits c.loop-place.place a b e c.loop-place.invariant.0 ends,
      omega (arith, c.loop-place.invariant.1, c.answer_item.ensures.later),
    )
