use Rattle.std.proofs.Common.{sym, ap, ◌∙◌, arith}
use Rattle.ae_valuereader.specs.Spans.{spans}
use Rattle.ae_valuereader.proofs.Spanning.{spans_none, spans_here, spans_turn}
use Rattle.ae_valuereader.proofs.spans.reaches.Goals as goal

pub returns-then-is_between : goal.returns-then-is_between
returns-then-is_between c =
    spans_here c.loop-more.more c.loop-more.least c.loop-more.most c.args.value (omega arith) (sym c.is_between.ensures ∙ c.if-is_between.true) ∙ sym c.loop-more.invariant

pub loop-more-preserved : goal.loop-more-preserved
loop-more-preserved c = c.loop-more.invariant ∙ spans_turn c.loop-more.more c.loop-more.least c.loop-more.most c.args.value (omega arith) (sym c.is_between.ensures ∙ c.if-is_between.false)

pub returns : goal.returns
returns c = spans_none c.loop-more.least c.loop-more.most c.args.value ∙ ap (λ k. spans k c.loop-more.least c.loop-more.most c.args.value) (omega arith) ∙ sym c.loop-more.invariant
