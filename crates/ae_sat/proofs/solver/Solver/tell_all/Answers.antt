use Rattle.std.proofs.Common.{◌∙◌, ◌<◌, length, ap, refl, arith}
use Rattle.ae_journal.specs.Journals.{live}
use Rattle.ae_sat.proofs.Propagating.{told_alive, alive_named}
use Rattle.ae_sat.proofs.solver.Solver.tell_all.Goals as goal

pub loop-self-init : goal.loop-self-init
loop-self-init g c = record { alive = λ js a. a; budget = λ n h. h; trail = refl; clauses = refl; places = refl; expanded = refl }

pub tell_one-requires-clause-fits : goal.tell_one-requires-clause-fits
tell_one-requires-clause-fits g c = (c.loop-self.invariant.alive c.requires.alive.0 c.requires.alive.1).fits_store

pub tell_one-requires-clause-named : goal.tell_one-requires-clause-named
tell_one-requires-clause-named g c =
    let l = c.loop-self.self in
    let left : l.handed < length l.propagation.trail = omega (arith, c.loop-self-test.true, c.len.ensures) in
    alive_named g.T.Equalities.fits g.T.Theory.assumed g.T.Theory.fits_mark g.T.Theory.in_step c.args.store.now l.theory l.marks.items l.propagation.trail l.propagation.clauses l.handed l.expanded c.requires.alive.0
    (c.loop-self.invariant.alive c.requires.alive.0 c.requires.alive.1) l.handed left

pub loop-self-smaller : goal.loop-self-smaller
loop-self-smaller g c = omega (arith, c.loop-self-test.true, c.len.ensures, c.in_ok-tell_one.ensures.told, ap length c.in_ok-tell_one.ensures.trail)

pub loop-self-preserved : goal.loop-self-preserved
loop-self-preserved g c =
    let l = c.loop-self.self in
    let a = c.tell_one.new.self in
    let e = c.in_ok-tell_one.ensures in
    let i = c.loop-self.invariant in
    record {
      alive = λ js h.
          let b = i.alive js h in
          told_alive g.T.Equalities.fits g.T.Theory.assumed g.T.Theory.fits_mark g.T.Theory.in_step c.args.store.now l.theory a.theory l.marks.items a.marks.items l.propagation.trail a.propagation.trail l.propagation.clauses a.propagation.clauses l.handed a.handed l.expanded
          a.expanded js b (e.running (live js) b.running) e.fits e.trail e.clauses (omega (arith, c.loop-self-test.true, c.len.ensures, e.told)) e.expanded;
      budget = λ n h. e.budget n (i.budget n h);
      trail = e.trail ∙ i.trail;
      clauses = e.clauses ∙ i.clauses;
      places = e.places ∙ i.places;
      expanded = e.expanded ∙ i.expanded;
    }

pub returns-in_err-tell_one-clause-trail : goal.returns-in_err-tell_one-clause-trail
returns-in_err-tell_one-clause-trail g c = c.in_err-tell_one.ensures.trail ∙ c.loop-self.invariant.trail

pub returns-in_err-tell_one-clause-clauses : goal.returns-in_err-tell_one-clause-clauses
returns-in_err-tell_one-clause-clauses g c = c.in_err-tell_one.ensures.clauses ∙ c.loop-self.invariant.clauses

pub returns-in_err-tell_one-clause-places : goal.returns-in_err-tell_one-clause-places
returns-in_err-tell_one-clause-places g c = c.in_err-tell_one.ensures.places ∙ c.loop-self.invariant.places

pub returns-in_err-tell_one-clause-expanded : goal.returns-in_err-tell_one-clause-expanded
returns-in_err-tell_one-clause-expanded g c = c.in_err-tell_one.ensures.expanded ∙ c.loop-self.invariant.expanded

pub returns-clause-told : goal.returns-clause-told
returns-clause-told g c = omega (arith, c.len.ensures, c.loop-self-test.false, (c.loop-self.invariant.alive c.requires.alive.0 c.requires.alive.1).told_within)

pub returns-in_err-tell_one-clause-budget : goal.returns-in_err-tell_one-clause-budget
returns-in_err-tell_one-clause-budget g c n h = c.in_err-tell_one.ensures.budget n (c.loop-self.invariant.budget n h)

pub returns-clause-budget : goal.returns-clause-budget
returns-clause-budget g c n h = c.loop-self.invariant.budget n h
