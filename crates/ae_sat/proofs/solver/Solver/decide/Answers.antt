use Rattle.std.proofs.Common.{◌≡◌, ◌∙◌, ℕ, ◌+◌, ◌++◌, ◌∷◌, [], List, length, sym, ap, subst, refl, None, arith, length-append, inr}
use Rattle.ae_core.specs.declared.formulas.Lit.{Lit}
use Rattle.ae_explain.specs.declared.trail.Assigned.{Assigned}
use Rattle.ae_explain.specs.Trail.{place_in}
use Rattle.ae_journal.specs.Noted.{Noted}
use Rattle.ae_journal.specs.declared.lines.Line.TheVariants as line
use Rattle.std.specs.List.{Contains}
use Rattle.ae_rules.specs.Clauses.{Clause}
use Rattle.ae_journal.specs.Journals.{live}
use Rattle.ae_propagation.specs.Settled.{last_level}
use Rattle.ae_sat.specs.Standing.{IsOneOf}
use Rattle.ae_sat.specs.Marked.{IsRunning}
use Rattle.ae_sat.proofs.Running.{decided_running}
use Rattle.ae_sat.proofs.solver.Solver.decide.Goals as goal

pub returns-clause-running : goal.returns-clause-running
returns-clause-running g c =
    let s = c.args.self.now in
    let l = c.in_ok-copy.copy in
    let same : l ≡ c.args.lit = c.in_ok-copy.ensures ∙ c.get.ensures in
    let a : Assigned = record { lit = c.into_inner.result; level = c.len-level.result; by = None } in
    subst (λ (w : List Clause). IsRunning g.T.Theory.assumed g.T.Theory.fits_mark g.T.Theory.in_step s.theory c.push.new.self.items c.assign.new.self.trail w s.handed (live c.note.new.journal.lines)) (sym c.in_ok-assign.ensures.clauses)
    (decided_running g.T.Theory.assumed g.T.Theory.fits_mark g.T.Theory.in_step s.theory s.marks.items c.push.new.self.items c.take_mark-mark.result s.propagation.trail c.assign.new.self.trail s.propagation.clauses s.handed
    c.args.journal.now.lines c.note.new.journal.lines l a c.requires.running c.requires.told c.take_mark-mark.ensures
    (subst (λ (x : Lit). place_in s.propagation.trail x.formula ≡ None) (sym same) c.requires.no_value)
    (λ js h. g.met.T.Theory.silent s.theory js (line.Decide l) refl h)
    (subst (λ (x : Lit). (d : Clause) × IsOneOf s.propagation.clauses d × Contains d x) (sym same) c.requires.of_clause)
    (c.into_inner.ensures ∙ sym same) (c.len-level.ensures ∙ c.push.new.self.ok.0) refl c.in_default.ensures.items c.in_ok-assign.ensures.ok (ap (λ (n : Noted). n.lines) c.in_ok-note.ensures.ok))

pub assign-requires : goal.assign-requires
assign-requires g c = record { new = subst (λ (x : Lit). place_in c.args.self.now.propagation.trail x.formula ≡ None) (sym c.into_inner.ensures) c.requires.no_value }

pub returns-clause-trail : goal.returns-clause-trail
returns-clause-trail g c =
    let s = c.args.self.now in
    let q : c.len-level.result ≡ last_level s.propagation.trail + 1 =
    omega (arith, c.len-level.ensures ∙ c.push.new.self.ok.0, ap length c.in_default.ensures.items, length-append s.marks.items (c.take_mark-mark.result ∷ []), c.requires.running.count) in
    let more : Lit → ℕ → List Assigned = λ x k. s.propagation.trail ++ record { lit = x; level = k; by = None } ∷ [] in
    c.in_ok-assign.ensures.ok ∙ ap (λ (x : Lit). more x c.len-level.result) c.into_inner.ensures ∙ ap (more c.args.lit) q

pub returns-clause-noted : goal.returns-clause-noted
returns-clause-noted g c =
    let noted : Lit → Noted = λ x. record c.args.journal.now { lines = c.args.journal.now.lines ++ line.Decide x ∷ [] } in
    c.in_ok-note.ensures.ok ∙ ap noted (c.in_ok-copy.ensures ∙ c.get.ensures)

pub returns-clause-noted_or : goal.returns-clause-noted_or
returns-clause-noted_or g c =
    let noted : Lit → Noted = λ x. record c.args.journal.now { lines = c.args.journal.now.lines ++ line.Decide x ∷ [] } in
    inr (c.in_ok-note.ensures.ok ∙ ap noted (c.in_ok-copy.ensures ∙ c.get.ensures))

pub returns-clause-clauses : goal.returns-clause-clauses
returns-clause-clauses g c = c.in_ok-assign.ensures.clauses

pub returns-in_err-assign-clause-clauses : goal.returns-in_err-assign-clause-clauses
returns-in_err-assign-clause-clauses g c = c.in_err-assign.ensures.clauses
