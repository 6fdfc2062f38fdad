use Rattle.std.proofs.Common.{rules, ◌<◌}
use Rattle.ae_first_clauses.proofs.Begun.{hyp_begun}
use Rattle.ae_first_clauses.proofs.beginning.add_hypotheses.Goals as goal

pub loop-place-preserved : goal.loop-place-preserved
loop-place-preserved c =
    let h : c.loop-place.place < c.args.goal = search rules in
    hyp_begun c.args.problem.now c.args.goal c.requires.lawful c.loop-place.place c.loop-place.first.lines.items c.add_hypothesis.new.first.lines.items c.loop-place.first.clauses c.add_hypothesis.new.first.clauses h c.loop-place.invariant c.in_ok-add_hypothesis.ensures
