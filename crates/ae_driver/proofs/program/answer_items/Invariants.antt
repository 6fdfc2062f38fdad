use Rattle.std.proofs.Common.{◌≤◌}
use Rattle.ae_driver.specs.Inner.Endings.{HasParts}
use Rattle.ae_driver.proofs.program.answer_items.Given as goal

abbrev pub invariant-loop-place : goal.invariant-loop-place
invariant-loop-place g l = HasParts l.problem l.asked.limits l.place (g.K.Sink.written l.fn.sink) (g.K.Sink.written l.sink) × (g.K.Sink.faults l.fn.sink ≤ g.K.Sink.faults l.sink)
