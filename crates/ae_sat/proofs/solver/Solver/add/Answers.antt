use Rattle.std.proofs.Common.{◌≡◌, ◌++◌, ◌∷◌, [], refl}
use Rattle.ae_journal.specs.Journals.{live}
use Rattle.ae_sat.proofs.Attaching.{attach_runs, named_add}
use Rattle.ae_sat.proofs.Propagating.{attach_alive}
use Rattle.ae_sat.proofs.solver.Solver.add.Goals as goal

pub returns-in-Ok-clause-alive : goal.returns-in-Ok-clause-alive
returns-in-Ok-clause-alive g c store js h named =
    let s = c.args.self.now in
    let n = c.attach.new.self in
    let u = n.clauses in
    let e : u ≡ s.propagation.clauses ++ c.args.clause ∷ [] = c.in-Ok.ensures.ok in
    let et = c.attach.ensures.trail in
    attach_alive g.T.Equalities.fits g.T.Theory.assumed g.T.Theory.fits_mark g.T.Theory.in_step store s.theory s.theory s.marks.items s.marks.items s.propagation.trail n.trail s.propagation.clauses u s.handed s.handed s.expanded s.expanded js c.args.clause
    h (attach_runs g.T.Theory.assumed g.T.Theory.fits_mark g.T.Theory.in_step s.theory s.theory s.marks.items s.marks.items s.propagation.trail n.trail s.propagation.clauses u s.handed s.handed (live js) c.args.clause h.running refl refl et e refl)
    (named_add store s.propagation.clauses u c.args.clause e h.named named) refl et e refl refl
