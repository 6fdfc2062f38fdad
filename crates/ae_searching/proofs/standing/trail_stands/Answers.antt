use Rattle.std.proofs.Common.{subst}
use Rattle.ae_journal.specs.Standing.{MayStand}
use Rattle.ae_sat.proofs.Learning.{trail_may_stand}
use Rattle.ae_sat.proofs.Legality.{decided_hold}
use Rattle.ae_sat.proofs.Surely.{surely_holds}
use Rattle.ae_sat.specs.Laws.{IsSettled}
use Rattle.ae_searching.proofs.Open.{open_quiet}
use Rattle.ae_searching.proofs.standing.trail_stands.Goals as goal

pub returns-clause-may : goal.returns-clause-may
returns-clause-may g c p n bound level s opened lines js h x told l y =
    let o = c.args.solver.now in
    let r = h.alive.running in
    subst (MayStand x js) y.2 (trail_may_stand x o.propagation.trail o.propagation.clauses js r.lawful r.decided (h.lawful x told).possible y.0 y.1)

pub returns-clause-surely : goal.returns-clause-surely
returns-clause-surely g c p n bound level s opened lines js h all_true x told l y =
    let o = c.args.solver.now in
    let t = o.propagation.trail in
    let u = o.propagation.clauses in
    let r = h.alive.running in
    let settled : IsSettled x js t u = record {
      lawful = r.lawful;
      quiet = open_quiet t u r.lawful.apart all_true;
      decided = decided_hold t js r.decided;
      given = (h.lawful x told).given;
      rows = all_true.rows;
    } in
    surely_holds x js t u settled l y
