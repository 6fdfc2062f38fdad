use Rattle.ae_between_rounds.specs.Owed.{IsOwedAt}
use Rattle.ae_owed_instances.proofs.OwedOnes.{put_further}
use Rattle.ae_owed_instances.proofs.finding.put_owed.Goals as goal

pub loop-subst-preserved : goal.loop-subst-preserved
loop-subst-preserved c =
    put_further (IsOwedAt c.args.task.problem.now c.args.task.goal c.args.search.now c.args.number) c.args.place c.in_ok-owed.owed c.loop-subst.owed c.pop.new.self c.in-Some.subst c.args.all.now c.loop-subst.all
    c.push.new.self c.in-Some.ensures c.in_ok-push.ensures.ok c.loop-subst.invariant
