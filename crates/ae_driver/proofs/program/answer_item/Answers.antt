use Rattle.std.proofs.Common.{subst}
use Rattle.ae_io.specs.Moves.{Gets, GetsPrefix}
use Rattle.ae_driver.proofs.program.answer_item.Goals as goal

pub returns-in-Ok-write_all-clause-ends : goal.returns-in-Ok-write_all-clause-ends
returns-in-Ok-write_all-clause-ends g c = (
  c.in-Ok.part.items,
  c.in-Ok.ensures.part,
  c.in-Ok.ensures.read_back,
  subst (λ xs. Gets (g.K.Sink.written c.args.sink.now) (g.K.Sink.written c.write_all.new.sink) xs) c.as_slice.ensures.value c.in-Ok-write_all.ensures.whole,
)

pub returns-in-Ok-clause-ends : goal.returns-in-Ok-clause-ends
returns-in-Ok-clause-ends g c = (
  c.in-Ok.part.items,
  c.in-Ok.ensures.part,
  subst (λ xs. GetsPrefix (g.K.Sink.written c.args.sink.now) (g.K.Sink.written c.write_all.new.sink) xs) c.as_slice.ensures.value c.in-Err-write_all.ensures.part,
)
