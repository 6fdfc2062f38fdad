use Rattle.std.proofs.Common.{◌≤◌}
use Rattle.ae_driver.specs.Inner.Endings.{HasLines}
use Rattle.ae_driver.proofs.checking.write_lines.Given as goal

abbrev pub invariant-loop-n : goal.invariant-loop-n
invariant-loop-n g l = HasLines l.problem l.goals l.parts l.n (g.K.Sink.written l.fn.sink) (g.K.Sink.written l.sink) × (g.K.Sink.faults l.fn.sink ≤ g.K.Sink.faults l.sink)
