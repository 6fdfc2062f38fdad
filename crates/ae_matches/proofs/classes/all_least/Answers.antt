use Rattle.std.proofs.Common.{sym, subst, ◌+◌, take, length}
use Rattle.ae_matches.specs.Classes.{AreLeast}
use Rattle.ae_matches.proofs.ClassLaws.{least_next}
use Rattle.ae_matches.proofs.classes.all_least.Goals as goal

pub loop-name-preserved : goal.loop-name-preserved
loop-name-preserved g c =
    let alike = g.E.Equalities.alike c.args.equalities.now in
    let count = length c.args.store.now.nodes in
    subst (AreLeast alike count (take (c.loop-name.name-index + 1) c.args.names.now)) (sym c.in_ok-push.ensures.ok)
    (least_next alike count c.args.names.now c.loop-name.all c.loop-name.name-index c.in_ok-first.first c.loop-name-test.true c.loop-name.invariant c.in_ok-first.ensures)
