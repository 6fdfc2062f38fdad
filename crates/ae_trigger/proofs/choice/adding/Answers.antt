use Rattle.std.proofs.Common.{ap, ◌∙◌}
use Rattle.ae_trigger.specs.Inner.Choices as spec
use Rattle.ae_trigger.proofs.ChoiceLaws.{adding_step}
use Rattle.ae_trigger.proofs.choice.adding.Goals as goal

pub loop-term-preserved : goal.loop-term-preserved
loop-term-preserved c =
    adding_step c.args.wanted.now c.args.terms.now c.loop-term.term-index c.term-item.result c.term-item.result c.adds-is_new.result c.loop-term.taken c.keep_where.new.kept
    c.loop-term-test.true c.loop-term.invariant c.term-item.is (c.adds-is_new.ensures ∙ ap (λ ks. spec.adds c.args.wanted.now ks c.term-item.result) c.as_slice.ensures) c.in_ok-keep_where.ensures
