use Rattle.std.proofs.Common.{List, length, sym, subst, ap, arith, length-append}
use Rattle.ae_rules.specs.Clauses.{Clause}
use Rattle.ae_explain.specs.Trail.{IsLawful}
use Rattle.ae_sat.specs.Marked.{IsRunning}
use Rattle.ae_sat.specs.Search.{IsLawfulState}
use Rattle.ae_sat.proofs.Growing.{grown_state, grown_runs}
use Rattle.ae_sat.proofs.solver.Solver.settle_trail.Goals as goal

pub returns-clause-running : goal.returns-clause-running
returns-clause-running g c standing r =
    let s = c.args.self.now in
    let n = c.settle.new.self in
    subst (λ (w : List Clause). IsRunning g.T.Theory.assumed g.T.Theory.fits_mark g.T.Theory.in_step s.theory s.marks.items n.trail w s.handed standing) (sym c.settle.ensures.clauses)
    (grown_runs g.T.Theory.assumed g.T.Theory.fits_mark g.T.Theory.in_step s.theory s.marks.items s.propagation.trail n.trail s.propagation.clauses s.handed standing c.settle.ensures.grown
    (subst (λ (w : List Clause). IsLawful n.trail w) c.settle.ensures.clauses c.settle.ensures.lawful) c.requires.told r)

pub returns-clause-state : goal.returns-clause-state
returns-clause-state g c setting ks js w =
    let s = c.args.self.now in
    let n = c.settle.new.self in
    subst (λ (v : List Clause). IsLawfulState setting n.trail v s.expanded ks js) (sym c.settle.ensures.clauses)
    (grown_state setting s.propagation.trail n.trail s.propagation.clauses s.expanded ks js c.settle.ensures.grown c.requires.expanded w)

pub returns-clause-told_still : goal.returns-clause-told_still
returns-clause-told_still g c = omega (arith, c.requires.told, ap length c.settle.ensures.grown.is, length-append c.args.self.now.propagation.trail c.settle.ensures.grown.more)

pub returns-clause-expanded_still : goal.returns-clause-expanded_still
returns-clause-expanded_still g c = omega (arith, c.requires.expanded, ap length c.settle.ensures.grown.is, length-append c.args.self.now.propagation.trail c.settle.ensures.grown.more)
