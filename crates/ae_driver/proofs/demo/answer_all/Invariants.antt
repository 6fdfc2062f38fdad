use Rattle.std.proofs.Common.{◌≤◌}
use Rattle.ae_driver.specs.Inner.Counting.{HasCounted}
use Rattle.ae_driver.proofs.demo.answer_all.Given as goal

abbrev pub invariant-loop-place : goal.invariant-loop-place
invariant-loop-place g l = record {
  so_far : HasCounted l.problem l.asked.limits l.place l.counts (g.K.Sink.written l.fn.sink) (g.K.Sink.written l.sink);
  later : g.K.Sink.faults l.fn.sink ≤ g.K.Sink.faults l.sink;
}
