use Rattle.std.proofs.Common.{ap, subst, arith}
use Rattle.ae_driver.specs.Inner.Endings.{LineEnds}
use Rattle.ae_driver.proofs.Answered.{rose_later}
use Rattle.ae_driver.proofs.Checked.{line_ends, line_done, no_lines, lines_done}
use Rattle.ae_driver.proofs.checking.write_lines.Goals as goal

pub loop-n-init : goal.loop-n-init
loop-n-init g c = (no_lines c.args.problem.now c.args.goals.now c.args.parts.now c.requires (g.K.Sink.written c.args.sink.now), omega arith)

pub returns-in_default : goal.returns-in_default
returns-in_default g c =
    let p = c.args.problem.now in
    let goals = c.args.goals.now in
    let parts = c.args.parts.now in
    let a = g.K.Sink.written c.args.sink.now in
    let b = g.K.Sink.written c.loop-n.sink in
    let e = g.K.Sink.written c.write_line.new.sink in
    record {
      ends = line_ends p goals parts c.requires c.loop-n.n c.index-goals-n.result c.index-parts-n.result a b e c.write_line.result c.loop-n-test.true c.index-goals-n.is c.index-parts-n.is
          c.loop-n.invariant.0 c.write_line.ensures.ends (λ m. ap g.K.Sink.written (c.write_line.ensures.memory m)) c.in_default.not-Done;
      write_fault = λ w. rose_later _ _ _ c.loop-n.invariant.1 (c.write_line.ensures.write_fault w);
    }

pub loop-n-preserved : goal.loop-n-preserved
loop-n-preserved g c =
    let p = c.args.problem.now in
    let goals = c.args.goals.now in
    let parts = c.args.parts.now in
    let a = g.K.Sink.written c.args.sink.now in
    let b = g.K.Sink.written c.loop-n.sink in
    let e = g.K.Sink.written c.write_line.new.sink in
    let ends = subst (λ s. LineEnds p c.index-goals-n.result c.index-parts-n.result b e s) c.in-Done.is c.write_line.ensures.ends in (
      line_done p goals parts c.requires c.loop-n.n c.index-goals-n.result c.index-parts-n.result a b e c.loop-n-test.true c.index-goals-n.is c.index-parts-n.is c.loop-n.invariant.0 ends,
      omega (arith, c.loop-n.invariant.1, c.write_line.ensures.later),
    )

pub returns-clause-ends : goal.returns-clause-ends
returns-clause-ends g c =
    lines_done c.args.problem.now c.args.goals.now c.args.parts.now c.requires c.loop-n.n (g.K.Sink.written c.args.sink.now) (g.K.Sink.written c.loop-n.sink)
    (omega (arith, c.loop-n-test.false, c.loop-n.auto.n-end)) c.loop-n.invariant.0
