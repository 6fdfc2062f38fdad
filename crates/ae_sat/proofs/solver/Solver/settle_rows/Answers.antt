use Rattle.std.proofs.Common.{rules, ◌<◌, ◌≤◌, length, arith, List, ℕ, sym, subst}
use Rattle.ae_sat.proofs.Closure.{all_formulas, all_parts, all_among, trail_within}
use Rattle.ae_sat.proofs.Propagating.{continues_same, continues_more, grown_continues}
use Rattle.ae_rules.specs.Clauses.{Clause}
use Rattle.ae_sat.specs.Search.{IsStated}
use Rattle.ae_sat.proofs.solver.Solver.settle_rows.Goals as goal

pub loop-k-init : goal.loop-k-init
loop-k-init g c = let s = c.args.self.now in continues_same g.T.Equalities.fits g.T.Theory.assumed g.T.Theory.fits_mark g.T.Theory.in_step s.theory s.marks.items s.propagation.trail s.propagation.clauses s.places s.handed s.expanded c.args.lines.now.items

pub settle_trail-requires-clause-lawful : goal.settle_trail-requires-clause-lawful
settle_trail-requires-clause-lawful g c = (c.loop-k.invariant.alive c.requires.alive.0 c.requires.alive.1 c.requires.alive.2).running.lawful

pub settle_trail-requires-clause-told : goal.settle_trail-requires-clause-told
settle_trail-requires-clause-told g c = (c.loop-k.invariant.alive c.requires.alive.0 c.requires.alive.1 c.requires.alive.2).told_within

pub settle_trail-requires-clause-expanded : goal.settle_trail-requires-clause-expanded
settle_trail-requires-clause-expanded g c = (c.loop-k.invariant.alive c.requires.alive.0 c.requires.alive.1 c.requires.alive.2).expanded_within

pub returns-in-Falsified-clause-continues : goal.returns-in-Falsified-clause-continues
returns-in-Falsified-clause-continues g c =
    let s = c.args.self.now in
    let l = c.loop-k in
    let a = c.settle_trail.new.self in
    continues_more g.T.Equalities.fits g.T.Theory.assumed g.T.Theory.fits_mark g.T.Theory.in_step s.theory l.self.theory a.theory s.marks.items l.self.marks.items a.marks.items s.propagation.trail l.self.propagation.trail a.propagation.trail s.propagation.clauses l.self.propagation.clauses
    a.propagation.clauses s.places l.self.places a.places s.handed l.self.handed a.handed s.expanded l.self.expanded a.expanded c.args.lines.now.items l.lines.items l.lines.items l.invariant
    (grown_continues g.T.Equalities.fits g.T.Theory.assumed g.T.Theory.fits_mark g.T.Theory.in_step l.self.theory a.theory l.self.marks.items a.marks.items l.self.propagation.trail a.propagation.trail l.self.propagation.clauses a.propagation.clauses l.self.places a.places
    l.self.handed a.handed l.self.expanded a.expanded l.lines.items
    c.settle_trail.ensures.running c.settle_trail.ensures.state c.settle_trail.ensures.grown c.settle_trail.ensures.theory c.settle_trail.ensures.clauses c.settle_trail.ensures.places c.settle_trail.ensures.handed
    c.settle_trail.ensures.expanded)

pub returns-then-len-self-clause-continues : goal.returns-then-len-self-clause-continues
returns-then-len-self-clause-continues g c =
    let s = c.args.self.now in
    let l = c.loop-k in
    let a = c.settle_trail.new.self in
    continues_more g.T.Equalities.fits g.T.Theory.assumed g.T.Theory.fits_mark g.T.Theory.in_step s.theory l.self.theory a.theory s.marks.items l.self.marks.items a.marks.items s.propagation.trail l.self.propagation.trail a.propagation.trail s.propagation.clauses l.self.propagation.clauses
    a.propagation.clauses s.places l.self.places a.places s.handed l.self.handed a.handed s.expanded l.self.expanded a.expanded c.args.lines.now.items l.lines.items l.lines.items l.invariant
    (grown_continues g.T.Equalities.fits g.T.Theory.assumed g.T.Theory.fits_mark g.T.Theory.in_step l.self.theory a.theory l.self.marks.items a.marks.items l.self.propagation.trail a.propagation.trail l.self.propagation.clauses a.propagation.clauses l.self.places a.places
    l.self.handed a.handed l.self.expanded a.expanded l.lines.items
    c.settle_trail.ensures.running c.settle_trail.ensures.state c.settle_trail.ensures.grown c.settle_trail.ensures.theory c.settle_trail.ensures.clauses c.settle_trail.ensures.places c.settle_trail.ensures.handed
    c.settle_trail.ensures.expanded)

pub expand_one-requires-clause-alive : goal.expand_one-requires-clause-alive
expand_one-requires-clause-alive g c =
    let s = c.args.self.now in
    let l = c.loop-k in
    let a = c.settle_trail.new.self in
    let r = continues_more g.T.Equalities.fits g.T.Theory.assumed g.T.Theory.fits_mark g.T.Theory.in_step s.theory l.self.theory a.theory s.marks.items l.self.marks.items a.marks.items s.propagation.trail l.self.propagation.trail a.propagation.trail s.propagation.clauses
    l.self.propagation.clauses a.propagation.clauses s.places l.self.places a.places s.handed l.self.handed a.handed s.expanded l.self.expanded a.expanded c.args.lines.now.items l.lines.items l.lines.items l.invariant
    (grown_continues g.T.Equalities.fits g.T.Theory.assumed g.T.Theory.fits_mark g.T.Theory.in_step l.self.theory a.theory l.self.marks.items a.marks.items l.self.propagation.trail a.propagation.trail l.self.propagation.clauses a.propagation.clauses l.self.places a.places
    l.self.handed a.handed l.self.expanded a.expanded l.lines.items
    c.settle_trail.ensures.running c.settle_trail.ensures.state c.settle_trail.ensures.grown c.settle_trail.ensures.theory c.settle_trail.ensures.clauses c.settle_trail.ensures.places c.settle_trail.ensures.handed
    c.settle_trail.ensures.expanded) in
    (c.requires.alive.0, c.requires.alive.1, r.alive c.requires.alive.0 c.requires.alive.1 c.requires.alive.2)

pub loop-k-smaller : goal.loop-k-smaller
loop-k-smaller g c =
    let s = c.args.self.now in
    let l = c.loop-k in
    let a = c.settle_trail.new.self in
    let r = continues_more g.T.Equalities.fits g.T.Theory.assumed g.T.Theory.fits_mark g.T.Theory.in_step s.theory l.self.theory a.theory s.marks.items l.self.marks.items a.marks.items s.propagation.trail l.self.propagation.trail a.propagation.trail s.propagation.clauses
    l.self.propagation.clauses a.propagation.clauses s.places l.self.places a.places s.handed l.self.handed a.handed s.expanded l.self.expanded a.expanded c.args.lines.now.items l.lines.items l.lines.items l.invariant
    (grown_continues g.T.Equalities.fits g.T.Theory.assumed g.T.Theory.fits_mark g.T.Theory.in_step l.self.theory a.theory l.self.marks.items a.marks.items l.self.propagation.trail a.propagation.trail l.self.propagation.clauses a.propagation.clauses l.self.places a.places
    l.self.handed a.handed l.self.expanded a.expanded l.lines.items
    c.settle_trail.ensures.running c.settle_trail.ensures.state c.settle_trail.ensures.grown c.settle_trail.ensures.theory c.settle_trail.ensures.clauses c.settle_trail.ensures.places c.settle_trail.ensures.handed
    c.settle_trail.ensures.expanded) in
    let w = (r.alive c.requires.alive.0 c.requires.alive.1 c.requires.alive.2).running in
    let short : length a.propagation.trail ≤ length (all_formulas s.propagation.clauses) =
    trail_within a.propagation.trail a.propagation.clauses w.lawful w.stands (all_formulas s.propagation.clauses) ((r.enlarges c.requires.alive.0).formulas (all_formulas s.propagation.clauses) (all_parts s.propagation.clauses) (all_among s.propagation.clauses)) in
    let left : a.expanded < length a.propagation.trail = search rules in
    omega (arith, short, left, c.in_ok-expand_one.ensures.next, c.settle_trail.ensures.expanded)

pub loop-k-preserved : goal.loop-k-preserved
loop-k-preserved g c =
    let s = c.args.self.now in
    let l = c.loop-k in
    let a = c.settle_trail.new.self in
    let b = c.expand_one.new.self in
    continues_more g.T.Equalities.fits g.T.Theory.assumed g.T.Theory.fits_mark g.T.Theory.in_step s.theory a.theory b.theory s.marks.items a.marks.items b.marks.items s.propagation.trail a.propagation.trail b.propagation.trail s.propagation.clauses a.propagation.clauses b.propagation.clauses s.places
    a.places b.places s.handed a.handed b.handed s.expanded a.expanded b.expanded c.args.lines.now.items l.lines.items c.expand_one.new.lines.items
    (continues_more g.T.Equalities.fits g.T.Theory.assumed g.T.Theory.fits_mark g.T.Theory.in_step s.theory l.self.theory a.theory s.marks.items l.self.marks.items a.marks.items s.propagation.trail l.self.propagation.trail a.propagation.trail s.propagation.clauses
    l.self.propagation.clauses a.propagation.clauses s.places l.self.places a.places s.handed l.self.handed a.handed s.expanded l.self.expanded a.expanded c.args.lines.now.items l.lines.items l.lines.items l.invariant
    (grown_continues g.T.Equalities.fits g.T.Theory.assumed g.T.Theory.fits_mark g.T.Theory.in_step l.self.theory a.theory l.self.marks.items a.marks.items l.self.propagation.trail a.propagation.trail l.self.propagation.clauses a.propagation.clauses l.self.places a.places
    l.self.handed a.handed l.self.expanded a.expanded l.lines.items
    c.settle_trail.ensures.running c.settle_trail.ensures.state c.settle_trail.ensures.grown c.settle_trail.ensures.theory c.settle_trail.ensures.clauses c.settle_trail.ensures.places c.settle_trail.ensures.handed
    c.settle_trail.ensures.expanded))
    c.in_ok-expand_one.ensures.continues

pub returns-in_err-k-clause-allowed : goal.returns-in_err-k-clause-allowed
returns-in_err-k-clause-allowed g c p n st = (c.loop-k.invariant.stated p n st).allowed

pub returns-in-Falsified-clause-allowed : goal.returns-in-Falsified-clause-allowed
returns-in-Falsified-clause-allowed g c p n st = (c.loop-k.invariant.stated p n st).allowed

pub returns-then-len-self-clause-allowed : goal.returns-then-len-self-clause-allowed
returns-then-len-self-clause-allowed g c p n st = (c.loop-k.invariant.stated p n st).allowed

pub returns-in_err-expand_one-clause-allowed : goal.returns-in_err-expand_one-clause-allowed
returns-in_err-expand_one-clause-allowed g c p n st =
    let l = c.loop-k in
    let a = c.settle_trail.new.self in
    c.in_err-expand_one.ensures.allowed p n (subst (λ (w : List Clause). IsStated p n l.lines.items w a.places) (sym c.settle_trail.ensures.clauses)
    (subst (λ (w : List ℕ). IsStated p n l.lines.items l.self.propagation.clauses w) (sym c.settle_trail.ensures.places) (l.invariant.stated p n st)))
