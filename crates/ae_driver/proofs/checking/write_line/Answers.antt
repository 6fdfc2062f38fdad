use Rattle.std.proofs.Common.{subst}
use Rattle.ae_io.specs.Moves.{Gets, GetsPrefix}
use Rattle.ae_driver.proofs.checking.write_line.Goals as goal

pub returns-in-Ok-write_all-clause-ends : goal.returns-in-Ok-write_all-clause-ends
returns-in-Ok-write_all-clause-ends g c = (
  c.in-Ok.line.items,
  c.in-Ok.ensures,
  subst (λ xs. Gets (g.K.Sink.written c.args.sink.now) (g.K.Sink.written c.write_all.new.sink) xs) c.as_slice.ensures.value c.in-Ok-write_all.ensures.whole,
)

pub returns-in-Ok-clause-ends : goal.returns-in-Ok-clause-ends
returns-in-Ok-clause-ends g c = (
  c.in-Ok.line.items,
  c.in-Ok.ensures,
  subst (λ xs. GetsPrefix (g.K.Sink.written c.args.sink.now) (g.K.Sink.written c.write_all.new.sink) xs) c.as_slice.ensures.value c.in-Err-write_all.ensures.part,
)
