use Rattle.std.proofs.Common.{ap, subst, arith}
use Rattle.ae_driver.specs.Inner.Counting.{CountedEnds}
use Rattle.ae_driver.proofs.Answered.{rose_later}
use Rattle.ae_driver.proofs.Counting.{counted_done, counted_ends, has_room, none_counted}
use Rattle.ae_driver.proofs.demo.answer_all.Goals as goal

pub loop-place-init : goal.loop-place-init
loop-place-init g c = record { so_far = none_counted c.args.problem.now c.args.asked.limits c.args.counts.now (g.K.Sink.written c.args.sink.now) c.requires.none; later = omega arith }

pub answer_counted-requires-clause-room : goal.answer_counted-requires-clause-room
answer_counted-requires-clause-room g c =
    let h = c.loop-place.invariant.so_far in
    has_room c.args.problem.now c.loop-place.place h.bytes c.loop-place.counts (omega arith) h.counted

pub returns-in_default : goal.returns-in_default
returns-in_default g c =
    let a = g.K.Sink.written c.args.sink.now in
    let b = g.K.Sink.written c.loop-place.sink in
    let e = g.K.Sink.written c.answer_counted.new.sink in
    record {
      ends = counted_ends c.args.problem.now c.args.asked.limits c.loop-place.place c.loop-place.counts c.answer_counted.new.counts a b e c.answer_counted.result
          (omega (arith, c.loop-place-test.true, c.len-place-end.ensures)) c.loop-place.invariant.so_far c.answer_counted.ensures.ends
          (λ m. ap g.K.Sink.written (c.answer_counted.ensures.memory m)) c.in_default.not-Done;
      write_fault = λ w. rose_later _ _ _ c.loop-place.invariant.later (c.answer_counted.ensures.write_fault w);
      later = omega (arith, c.loop-place.invariant.later, c.answer_counted.ensures.later);
    }

pub loop-place-preserved : goal.loop-place-preserved
loop-place-preserved g c =
    let p = c.args.problem.now in
    let a = g.K.Sink.written c.args.sink.now in
    let b = g.K.Sink.written c.loop-place.sink in
    let e = g.K.Sink.written c.answer_counted.new.sink in
    let ends = subst (λ s. CountedEnds p c.args.asked.limits c.loop-place.place c.loop-place.counts c.answer_counted.new.counts b e s) c.in-Done.is c.answer_counted.ensures.ends in
    record {
      so_far = counted_done p c.args.asked.limits c.loop-place.place c.loop-place.counts c.answer_counted.new.counts a b e c.loop-place.invariant.so_far ends;
      later = omega (arith, c.loop-place.invariant.later, c.answer_counted.ensures.later);
    }
