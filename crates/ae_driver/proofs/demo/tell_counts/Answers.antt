use Rattle.std.proofs.Common.{subst, ◌∙◌}
use Rattle.ae_io.specs.Moves.{Gets, GetsPrefix}
use Rattle.ae_driver.proofs.demo.tell_counts.Goals as goal

pub returns-in-Ok-write_all-clause-ends : goal.returns-in-Ok-write_all-clause-ends
returns-in-Ok-write_all-clause-ends g c =
    subst (λ xs. Gets (g.K.Sink.written c.args.sink.now) (g.K.Sink.written c.write_all.new.sink) xs) (c.as_slice.ensures.value ∙ c.in-Ok.ensures) c.in-Ok-write_all.ensures.whole

pub returns-in-Ok-clause-ends : goal.returns-in-Ok-clause-ends
returns-in-Ok-clause-ends g c =
    subst (λ xs. GetsPrefix (g.K.Sink.written c.args.sink.now) (g.K.Sink.written c.write_all.new.sink) xs) (c.as_slice.ensures.value ∙ c.in-Ok.ensures) c.in-Err-write_all.ensures.part
