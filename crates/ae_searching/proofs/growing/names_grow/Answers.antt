use Rattle.ae_searching.proofs.Searching.{searching_named}
use Rattle.ae_searching.proofs.growing.names_grow.Goals as goal

pub returns : goal.returns
returns g c p n bound level old new opened opened2 lines js w h =
    let o = c.args.solver.now in
    searching_named g.T.Equalities.fits g.T.Theory.assumed g.T.Theory.fits_mark g.T.Theory.in_step p n bound old new opened opened2 level o lines js (g.met.T.Equalities.fits_more o.theory old new w.extends) w h
