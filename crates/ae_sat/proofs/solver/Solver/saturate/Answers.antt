use Rattle.std.proofs.Common.{◌≡◌, ◌∙◌, ℕ, List, ap, subst, take, arith}
use Rattle.std.proofs.Math.Seq.{take-length}
use Rattle.std.specs.List.{Contains}
use Rattle.ae_theory.specs.Tagged.{Tagged}
use Rattle.ae_theory.specs.Noting.{literals, MayAll}
use Rattle.ae_sat.specs.Marked.{atoms}
use Rattle.ae_journal.specs.Journals.{counted_in}
use Rattle.ae_journal.proofs.Counting.{counted-append}
use Rattle.ae_sat.proofs.Results.{on_ok_more}
use Rattle.ae_sat.proofs.Learning.{trail_may_stand}
use Rattle.ae_sat.proofs.Saturating.{theory_notes, theory_leaves, theory_own, atoms_stand, theory_runs}
use Rattle.ae_sat.proofs.solver.Solver.saturate.Goals as goal
use Rattle.ae_journal.specs.Standing.{MayStand}

pub returns-clause-legal : goal.returns-clause-legal
returns-clause-legal g c setting bound lines named state =
    let s = c.args.self.now in
    let j = c.args.journal.now in
    let all : g.T.Theory.assumed s.theory ≡ atoms s.propagation.trail = c.requires.alive.running.told_all ∙ ap atoms (ap (λ (k : ℕ). take k s.propagation.trail) c.requires.told ∙ take-length s.propagation.trail) in
    let may : MayAll setting (literals (g.T.Theory.assumed s.theory)) j.lines = λ l h.
    atoms_stand (MayStand setting j.lines) 0 s.propagation.trail (trail_may_stand setting s.propagation.trail s.propagation.clauses j.lines c.requires.alive.running.lawful c.requires.alive.running.decided state.possible) l
    (subst (λ (w : List Tagged). Contains (literals w) l) all h) in (
      theory_notes setting bound j c.saturate.new.journal c.saturate.ensures.noted (c.saturate.ensures.legal setting bound named may),
      theory_leaves setting s.propagation.trail s.propagation.clauses s.expanded lines j c.saturate.new.journal c.saturate.ensures.noted state,
    )

pub returns-clause-alive : goal.returns-clause-alive
returns-clause-alive g c =
    let s = c.args.self.now in
    on_ok_more _ _ c.saturate.result c.saturate.ensures.step (λ st. record {
      running = theory_runs g.T.Theory.assumed g.T.Theory.fits_mark g.T.Theory.in_step s.theory c.saturate.new.self s.marks.items s.propagation.trail s.propagation.clauses s.handed c.args.journal.now c.saturate.new.journal
          c.requires.alive.running c.saturate.ensures.assumed c.saturate.ensures.marks c.saturate.ensures.noted st;
      fits_store = c.saturate.ensures.fits;
      named = c.requires.alive.named;
      told_within = c.requires.alive.told_within;
      expanded_within = c.requires.alive.expanded_within;
      has_rows = c.requires.alive.has_rows;
    })

pub returns-clause-journal : goal.returns-clause-journal
returns-clause-journal g c =
    let h = c.saturate.ensures.noted in
    record {
      limit = h.limit;
      more = omega (arith, ap counted_in h.is, counted-append c.args.journal.now.lines h.added);
      own = (h.added, h.is, theory_own h.added h.theory);
    }

pub returns-clause-number : goal.returns-clause-number
returns-clause-number g c wide e setting lines named state =
    let s = c.args.self.now in
    let j = c.args.journal.now in
    let all : g.T.Theory.assumed s.theory ≡ atoms s.propagation.trail = c.requires.alive.running.told_all ∙ ap atoms (ap (λ (k : ℕ). take k s.propagation.trail) c.requires.told ∙ take-length s.propagation.trail) in
    let may : MayAll setting (literals (g.T.Theory.assumed s.theory)) j.lines = λ l h.
    atoms_stand (MayStand setting j.lines) 0 s.propagation.trail (trail_may_stand setting s.propagation.trail s.propagation.clauses j.lines c.requires.alive.running.lawful c.requires.alive.running.decided state.possible) l
    (subst (λ (w : List Tagged). Contains (literals w) l) all h) in
    c.saturate.ensures.number wide e setting named may

pub returns-clause-budget : goal.returns-clause-budget
returns-clause-budget g c = c.saturate.ensures.budget

pub returns-clause-budget_left : goal.returns-clause-budget_left
returns-clause-budget_left g c = c.saturate.ensures.budget_steps
