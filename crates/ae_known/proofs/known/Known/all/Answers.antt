use Rattle.std.proofs.Common.{arith}
use Rattle.ae_base.proofs.ListFacts.{value_at}
use Rattle.ae_known.proofs.IndexLaws.{one_more, arguments_more}
use Rattle.ae_known.proofs.known.Known.all.Goals as goal

pub loop-name-preserved : goal.loop-name-preserved
loop-name-preserved c =
    let g = value_at c.args.store.now.nodes c.loop-name.name (omega (arith, c.loop-name-test.true, c.loop-name.auto.name-end, c.len-name-end.ensures.len)) in (
      one_more c.args.store.now.nodes c.loop-name.name c.loop-name.known c.enter.new.self g.0 g.1 c.loop-name.invariant.0 (c.in_ok-enter.ensures.heads g.0 g.1),
      arguments_more c.args.store.now.nodes c.loop-name.name c.loop-name.known c.enter.new.self g.0 g.1 c.loop-name.invariant.1 (c.in_ok-enter.ensures.arguments g.0 g.1) c.enter.ensures.offered,
    )
