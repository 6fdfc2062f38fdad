use Rattle.std.proofs.Common.{ap, subst}
use Rattle.ae_driver.specs.Inner.Counting.{CountingEnds}
use Rattle.ae_driver.proofs.Answered.{rose_later}
use Rattle.ae_driver.proofs.Counting.{counting_ends, line_ends}
use Rattle.ae_driver.proofs.demo.answer_and_tell.Goals as goal

pub returns-in-Done : goal.returns-in-Done
returns-in-Done g c =
    let p = c.args.problem.now in
    let a = g.K.Sink.written c.args.sink.now in
    let b = g.K.Sink.written c.answer_all.new.sink in
    let e = g.K.Sink.written c.tell_counts.new.sink in
    record {
      ends = line_ends c.args.asked.limits c.args.goals p c.requires.problem c.answer_all.new.counts a b e c.tell_counts.result
          (subst (λ s. CountingEnds p c.args.asked.limits c.answer_all.new.counts a b s) c.in-Done.is c.answer_all.ensures.ends) c.tell_counts.ensures.ends
          (λ m. ap g.K.Sink.written (c.tell_counts.ensures.memory m));
      write_fault = λ w. rose_later _ _ _ c.answer_all.ensures.later (c.tell_counts.ensures.write_fault w);
    }

pub returns-in_default-clause-ends : goal.returns-in_default-clause-ends
returns-in_default-clause-ends g c =
    counting_ends c.args.asked.limits c.args.goals c.args.problem.now c.requires.problem c.answer_all.new.counts _ _ c.answer_all.result c.answer_all.ensures.ends c.in_default.not-Done
