use Rattle.std.proofs.Common.{◌≡◌, ◌++◌, ◌∷◌, [], ◌<◌, inl, inr, length, ap, arith}
use Rattle.ae_journal.specs.Journals.{decisions, live}
use Rattle.ae_journal.specs.Noted.{Noted}
use Rattle.ae_journal.specs.declared.lines.Line.TheVariants as line
use Rattle.ae_propagation.specs.Settled.{last_level}
use Rattle.ae_sat.proofs.LearnSteps.{cut_low, front_cut}
use Rattle.ae_sat.proofs.Running.{all_lits}
use Rattle.ae_searching.proofs.Alive.{returned_alive}
use Rattle.ae_searching.proofs.Instances.{back_alone, no_line}
use Rattle.ae_searching.proofs.Searching.{news_back, searching_returned, so_far_line, so_far_to}
use Rattle.ae_searching.specs.Searching.{IsLawfulSoFar}
use Rattle.ae_searching.proofs.returning.return_to.Goals as goal

pub go_back-requires-clause-running : goal.go_back-requires-clause-running
go_back-requires-clause-running g c = c.requires.alive.1.running

pub go_back-requires-clause-within : goal.go_back-requires-clause-within
go_back-requires-clause-within g c = omega (arith, c.requires.alive.1.running.count, c.level_now-present.ensures, ap last_level c.trail.ensures, c.if-present-level.false)

pub returns-clause-searching : goal.returns-clause-searching
returns-clause-searching g c p n bound s opened lines news h =
    let o = c.args.solver.now in
    let b = c.go_back.new.self in
    let e = c.in_ok-go_back.ensures in
    let js = c.args.journal.now.lines in
    let level = c.args.level in
    let r = h.alive.running in
    let ej : c.go_back.new.journal.lines ≡ js ++ line.Back level ∷ [] = ap (λ (k : Noted). k.lines) e.noted in
    let some : level < length (decisions (live js)) =
    omega (arith, ap length r.decided, all_lits o.propagation.trail o.propagation.clauses r.lawful, c.level_now-present.ensures, ap last_level c.trail.ensures, c.if-present-level.false) in
    let alive = returned_alive g.T.Equalities.fits g.T.Theory.assumed g.T.Theory.fits_mark g.T.Theory.in_step s o.theory b.theory o.marks.items b.marks.items o.propagation.trail
    b.propagation.trail o.propagation.clauses b.propagation.clauses
    o.handed b.handed o.expanded b.expanded js c.go_back.new.journal.lines level e.running (e.fits s) e.told_within e.expanded e.expanded_within e.trail e.clauses h.alive in
    searching_returned g.T.Equalities.fits g.T.Theory.assumed g.T.Theory.fits_mark g.T.Theory.in_step p n bound s opened level o b lines js c.go_back.new.journal.lines
    (news_back js level news some) alive e.trail e.clauses e.places e.expanded ej h

pub returns-clause-level : goal.returns-clause-level
returns-clause-level g c =
    let o = c.args.solver.now in
    let b = c.go_back.new.self in
    cut_low o.propagation.trail b.propagation.trail c.args.level
    (front_cut o.propagation.trail o.propagation.clauses c.args.level b.propagation.trail c.requires.alive.1.running.lawful c.in_ok-go_back.ensures.trail)

pub returns-in_err-go_back-clause-so_far : goal.returns-in_err-go_back-clause-so_far
returns-in_err-go_back-clause-so_far g c p n bound s opened lines news h =
    let o = c.args.solver.now in
    let r = c.requires.alive.1.running in
    let js = c.args.journal.now.lines in
    let new = c.go_back.new.journal.lines in
    let level = c.args.level in
    let some : level < length (decisions (live js)) =
    omega (arith, ap length r.decided, all_lits o.propagation.trail o.propagation.clauses r.lawful, c.level_now-present.ensures, ap last_level c.trail.ensures, c.if-present-level.false) in
    elim c.in_err-go_back.ensures.noted_or as (λ _. IsLawfulSoFar p n bound s opened lines new) [
      | inl q ↦ so_far_to p n bound s opened lines lines js new h.allowed (ap (λ (k : Noted). k.lines) q) h
      | inr q ↦ so_far_to p n bound s opened lines lines (js ++ line.Back level ∷ []) new h.allowed (ap (λ (k : Noted). k.lines) q)
          (so_far_line p n bound s opened lines js (line.Back level) (λ x told. news_back js level news some) h)
    ]

pub returns-clause-so_far : goal.returns-clause-so_far
returns-clause-so_far g c p n bound s opened lines news h =
    let o = c.args.solver.now in
    let r = c.requires.alive.1.running in
    let js = c.args.journal.now.lines in
    let new = c.go_back.new.journal.lines in
    let level = c.args.level in
    let some : level < length (decisions (live js)) =
    omega (arith, ap length r.decided, all_lits o.propagation.trail o.propagation.clauses r.lawful, c.level_now-present.ensures, ap last_level c.trail.ensures, c.if-present-level.false) in
    so_far_to p n bound s opened lines lines (js ++ line.Back level ∷ []) new h.allowed (ap (λ (k : Noted). k.lines) c.in_ok-go_back.ensures.noted)
    (so_far_line p n bound s opened lines js (line.Back level) (λ x told. news_back js level news some) h)

pub returns-then-present-level-clause-level : goal.returns-then-present-level-clause-level
returns-then-present-level-clause-level g c = omega (arith, c.if-present-level.true, c.level_now-present.ensures, ap last_level c.trail.ensures)

pub returns-then-present-level-clause-instances : goal.returns-then-present-level-clause-instances
returns-then-present-level-clause-instances g c = no_line c.args.journal.now.lines

pub returns-in_err-go_back-clause-instances : goal.returns-in_err-go_back-clause-instances
returns-in_err-go_back-clause-instances g c = back_alone c.args.journal.now c.go_back.new.journal c.args.level c.in_err-go_back.ensures.noted_or

pub returns-clause-instances : goal.returns-clause-instances
returns-clause-instances g c = back_alone c.args.journal.now c.go_back.new.journal c.args.level (inr c.in_ok-go_back.ensures.noted)
