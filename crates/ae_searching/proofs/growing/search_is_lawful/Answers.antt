use Rattle.ae_searching.proofs.Lawful.{settled, unsettled}
use Rattle.ae_searching.proofs.Searching.{searching_lower, so_far}
use Rattle.ae_searching.proofs.growing.search_is_lawful.Goals as goal

pub returns-clause-lower : goal.returns-clause-lower
returns-clause-lower g c p n bound level least s opened lines js low h =
    searching_lower g.T.Equalities.fits g.T.Theory.assumed g.T.Theory.fits_mark g.T.Theory.in_step p n bound s opened level least c.args.solver.now lines js low h

pub returns-clause-so_far : goal.returns-clause-so_far
returns-clause-so_far g c p n bound level s opened lines js h =
    so_far g.T.Equalities.fits g.T.Theory.assumed g.T.Theory.fits_mark g.T.Theory.in_step p n bound s opened level c.args.solver.now lines js h

pub returns-clause-lawful : goal.returns-clause-lawful
returns-clause-lawful g c p n bound level s opened lines js low h x told =
    let o = c.args.solver.now in
    settled x bound s level o.propagation.trail o.propagation.clauses o.expanded lines js low (h.lawful x told)

pub returns-clause-begins : goal.returns-clause-begins
returns-clause-begins g c p n bound s opened lines js signature alive stated each =
    let o = c.args.solver.now in
    record {
      signature = signature;
      alive = alive;
      stated = stated;
      lawful = λ x told. let w = each x told in unsettled x bound s o.propagation.trail o.propagation.clauses o.expanded lines js w.legal w.state w.entered;
    }
