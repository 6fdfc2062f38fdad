use Rattle.std.proofs.Common.{length, ◌+◌, ◌-◌, ◌≤◌, take}
use Rattle.ae_io.specs.Moves.{Gets}
use Rattle.ae_io.proofs.whole.write_all.Given as goal

abbrev pub invariant-loop-done : goal.invariant-loop-done
invariant-loop-done g l = record {
  in_range : l.done ≤ length l.bytes;
  got : Gets (g.K.Sink.written l.fn.sink) (g.K.Sink.written l.sink) (take l.done l.bytes);
  later : g.K.Sink.faults l.fn.sink ≤ g.K.Sink.faults l.sink;
  turns : g.K.Sink.calls l.sink ≤ g.K.Sink.calls l.fn.sink + l.done;
}

abbrev pub decreases-loop-done : goal.decreases-loop-done
decreases-loop-done g l = length l.bytes - l.done
