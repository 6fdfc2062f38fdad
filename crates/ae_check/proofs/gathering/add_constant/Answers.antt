use Rattle.ae_check.proofs.Gathered.{one_gathered}
use Rattle.ae_check.proofs.gathering.add_constant.Goals as goal

pub returns-in-Ok : goal.returns-in-Ok
returns-in-Ok c = one_gathered _ _ c.args.number c.args.sort.now c.in_ok-constant.constant c.in_ok-constant.ensures c.in-Ok.ensures.updates.0
