use Rattle.std.proofs.Common.{ap, ◌∙◌, arith}
use Rattle.std.specs.List.{filter}
use Rattle.std.proofs.lemmas.List.{take_all}
use Rattle.ae_owed_matches.proofs.Taking.{owed_further}
use Rattle.ae_owed_matches.specs.Found.{is_owed}
use Rattle.ae_owed_matches.proofs.finding.owed.Goals as goal

pub loop-subst-preserved : goal.loop-subst-preserved
loop-subst-preserved g c =
    owed_further (g.E.Equalities.alike c.args.equalities.now) c.args.owner c.args.instances.now.taken c.args.found.now c.loop-subst.subst-index c.subst-item.result c.loop-subst.owed c.push_owed.new.owed c.in_ok-taken.taken
    (omega arith) c.subst-item.is c.loop-subst.invariant c.in_ok-taken.ensures c.in_ok-push_owed.ensures

pub returns : goal.returns
returns g c =
    c.loop-subst.invariant
    ∙ ap (filter (is_owed (g.E.Equalities.alike c.args.equalities.now) c.args.owner c.args.instances.now.taken)) (take_all c.loop-subst.subst-index c.args.found.now (omega arith))
