use Rattle.std.proofs.Common.{arith}
use Rattle.std.proofs.lemmas.List.{length-drop}
use Rattle.ae_io.proofs.Moves.{gets_more}
use Rattle.ae_io.proofs.whole.write_all.Goals as goal

pub loop-done-preserved : goal.loop-done-preserved
loop-done-preserved g c = record {
  in_range = omega (arith, c.in-Ok.ensures.bound, length-drop c.loop-done.done c.args.bytes.now, c.loop-done.invariant.in_range);
  got = gets_more (g.K.Sink.written c.args.sink.now) (g.K.Sink.written c.loop-done.sink) (g.K.Sink.written c.write.new.self) c.loop-done.done c.in-Ok.count c.args.bytes.now c.loop-done.invariant.got c.in-Ok.ensures.bytes;
  later = omega (arith, c.loop-done.invariant.later, c.in-Ok.ensures.later);
  turns = omega (arith, c.loop-done.invariant.turns, c.in-Ok.ensures.counted, c.if-count-eq0.false);
}
