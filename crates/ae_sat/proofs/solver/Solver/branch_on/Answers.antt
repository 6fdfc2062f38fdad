use Rattle.std.proofs.Common.{rules, ◌≡◌, ◌+◌, ◌++◌, ◌∷◌, [], ℕ, List, sym, ap, subst, arith, refl, None, length, length-append}
use Rattle.ae_rules.specs.Clauses.{Clause}
use Rattle.ae_explain.specs.declared.trail.Assigned.{Assigned}
use Rattle.ae_explain.specs.Trail.{clause, place_in, AreFalse}
use Rattle.ae_journal.specs.Noted.{Noted}
use Rattle.ae_journal.specs.declared.lines.Line.{Line}
use Rattle.ae_journal.specs.declared.lines.Line.TheVariants as line
use Rattle.ae_propagation.specs.Settled.{HasTrue}
use Rattle.ae_propagation.specs.Settled.{last_level}
use Rattle.ae_sat.specs.Search.{AllNamed, IsLawfulState}
use Rattle.ae_sat.proofs.Enlarging.{enlarges_same, enlarges_to}
use Rattle.ae_sat.proofs.Legality.{may_decide, decision_keeps, rows_more}
use Rattle.ae_sat.specs.Standing.{HasRows}
use Rattle.ae_sat.proofs.Branching.{progresses, keeps_one, keeps_either, notes_one, notes_either}
use Rattle.ae_sat.proofs.Searching.{keeps_same}
use Rattle.ae_sat.proofs.solver.Solver.branch_on.Goals as goal

pub choose-requires-clause-untrue : goal.choose-requires-clause-untrue
choose-requires-clause-untrue g c h =
    let s = c.args.self.now in
    let e : c.clause_at.result.now ≡ clause s.propagation.clauses c.args.number = c.clause_at.ensures in
    c.requires.untrue (subst (λ (w : List Assigned). HasTrue w (clause s.propagation.clauses c.args.number)) c.trail.ensures (subst (HasTrue c.trail.result.now.assigned) e h))

pub choose-requires-clause-not_false : goal.choose-requires-clause-not_false
choose-requires-clause-not_false g c h =
    let s = c.args.self.now in
    let e : c.clause_at.result.now ≡ clause s.propagation.clauses c.args.number = c.clause_at.ensures in
    c.requires.quiet.none_false c.args.number c.requires.within (subst (λ (w : List Assigned). AreFalse w (clause s.propagation.clauses c.args.number)) c.trail.ensures (subst (AreFalse c.trail.result.now.assigned) e h))

pub returns-in_err-decide-clause-journal : goal.returns-in_err-decide-clause-journal
returns-in_err-decide-clause-journal g c = keeps_either c.args.journal.now c.decide.new.journal c.in_ok-lit.lit c.in_err-decide.ensures.noted_or

pub returns-clause-journal : goal.returns-clause-journal
returns-clause-journal g c = keeps_one c.args.journal.now c.decide.new.journal c.in_ok-lit.lit c.in_ok-decide.ensures.noted

pub returns-clause-decided : goal.returns-clause-decided
returns-clause-decided g c = progresses c.args.journal.now c.decide.new.journal c.in_ok-lit.lit c.in_ok-decide.ensures.noted c.in_ok-decide.ensures.within

pub returns-clause-alive : goal.returns-clause-alive
returns-clause-alive g c = record {
  running = c.in_ok-decide.ensures.running;
  fits_store = subst (λ (w : _). g.T.Equalities.fits w c.args.store.now) (sym c.in_ok-decide.ensures.theory) c.requires.alive.fits_store;
  named = subst (AllNamed c.args.store.now) (sym c.in_ok-decide.ensures.clauses) c.requires.alive.named;
  told_within = omega (
    arith,
    c.in_ok-decide.ensures.handed,
    ap length c.in_ok-decide.ensures.trail,
    length-append c.args.self.now.propagation.trail
        (record { lit = c.in_ok-lit.lit; level = last_level c.args.self.now.propagation.trail + 1; by = None } ∷ []),
    c.requires.alive.told_within,
  );
  expanded_within = omega (
    arith,
    c.in_ok-decide.ensures.expanded,
    ap length c.in_ok-decide.ensures.trail,
    length-append c.args.self.now.propagation.trail
        (record { lit = c.in_ok-lit.lit; level = last_level c.args.self.now.propagation.trail + 1; by = None } ∷ []),
    c.requires.alive.expanded_within,
  );
  has_rows =
      let s = c.args.self.now in
      let new = c.decide.new.self in
      let a : Assigned = record { lit = c.in_ok-lit.lit; level = last_level s.propagation.trail + 1; by = None } in
      subst (λ (w : ℕ). HasRows new.propagation.trail w new.propagation.clauses) (sym c.in_ok-decide.ensures.expanded)
      (subst (λ (w : List Clause). HasRows new.propagation.trail s.expanded w) (sym c.in_ok-decide.ensures.clauses)
      (subst (λ (w : List Assigned). HasRows w s.expanded s.propagation.clauses) (sym c.in_ok-decide.ensures.trail) (rows_more s.propagation.trail a s.expanded s.propagation.clauses c.requires.alive.expanded_within c.requires.alive.has_rows)));
}

pub returns-in_err-decide-clause-legal : goal.returns-in_err-decide-clause-legal
returns-in_err-decide-clause-legal g c setting bound same stated state =
    let s = c.args.self.now in
    let js = c.args.journal.now.lines in
    let e : c.clause_at.result.now ≡ clause s.propagation.clauses c.args.number = c.clause_at.ensures in
    let d = may_decide setting s.propagation.trail s.propagation.clauses s.expanded c.args.lines.now.items js c.clause_at.result.now c.in_ok-lit.lit c.requires.alive.running.lawful c.requires.quiet c.requires.expanded c.requires.alive.running.decided
    state (c.args.number, c.requires.within, sym e) c.in_ok-lit.ensures.has (subst (λ (w : List Assigned). place_in w c.in_ok-lit.lit.formula ≡ None) c.trail.ensures c.in_ok-lit.ensures.no_value) (λ h. c.requires.untrue (subst (HasTrue s.propagation.trail) e h)) in
    (notes_either setting bound c.args.journal.now c.decide.new.journal c.in_ok-lit.lit d c.in_err-decide.ensures.noted_or, search rules)

pub returns-clause-legal : goal.returns-clause-legal
returns-clause-legal g c setting bound same stated state =
    let s = c.args.self.now in
    let t = s.propagation.trail in
    let js = c.args.journal.now.lines in
    let l = c.in_ok-lit.lit in
    let ks = c.args.lines.now.items in
    let new = c.decide.new.self in
    let e : c.clause_at.result.now ≡ clause s.propagation.clauses c.args.number = c.clause_at.ensures in
    let d = may_decide setting t s.propagation.clauses s.expanded ks js c.clause_at.result.now l c.requires.alive.running.lawful c.requires.quiet c.requires.expanded c.requires.alive.running.decided
    state (c.args.number, c.requires.within, sym e) c.in_ok-lit.ensures.has (subst (λ (w : List Assigned). place_in w c.in_ok-lit.lit.formula ≡ None) c.trail.ensures c.in_ok-lit.ensures.no_value) (λ h. c.requires.untrue (subst (HasTrue t) e h)) in
    let noted : c.decide.new.journal.lines ≡ js ++ line.Decide l ∷ [] = ap (λ (w : Noted). w.lines) c.in_ok-decide.ensures.noted in
    let a : Assigned = record { lit = l; level = last_level t + 1; by = None } in
    let k : IsLawfulState setting (t ++ a ∷ []) s.propagation.clauses s.expanded ks (js ++ line.Decide l ∷ []) =
    decision_keeps setting t s.propagation.clauses s.expanded ks js a l c.requires.alive.running.lawful c.requires.quiet (omega (arith, c.requires.expanded)) refl state in (
      notes_one setting bound js c.decide.new.journal.lines l d noted,
      subst (λ (w : List Line). IsLawfulState setting new.propagation.trail new.propagation.clauses new.expanded ks w) (sym noted)
          (subst (λ (w : ℕ). IsLawfulState setting new.propagation.trail new.propagation.clauses w ks (js ++ line.Decide l ∷ [])) (sym c.in_ok-decide.ensures.expanded)
          (subst (λ (w : List Clause). IsLawfulState setting new.propagation.trail w s.expanded ks (js ++ line.Decide l ∷ [])) (sym c.in_ok-decide.ensures.clauses)
          (subst (λ (w : List Assigned). IsLawfulState setting w s.propagation.clauses s.expanded ks (js ++ line.Decide l ∷ [])) (sym c.in_ok-decide.ensures.trail) k))),
    )

pub decide-requires-clause-of_clause : goal.decide-requires-clause-of_clause
decide-requires-clause-of_clause g c =
    let s = c.args.self.now in
    let e : c.clause_at.result.now ≡ clause s.propagation.clauses c.args.number = c.clause_at.ensures in
    (c.clause_at.result.now, (c.args.number, c.requires.within, sym e), c.in_ok-lit.ensures.has)

pub returns-clause-enlarges : goal.returns-clause-enlarges
returns-clause-enlarges g c =
    let u = c.args.self.now.propagation.clauses in
    let ks = c.args.lines.now.items in
    enlarges_to c.args.store.now u u c.decide.new.self.propagation.clauses ks ks ks (enlarges_same c.args.store.now u ks) c.in_ok-decide.ensures.clauses refl

pub returns-in_err-lit-clause-journal : goal.returns-in_err-lit-clause-journal
returns-in_err-lit-clause-journal g c = keeps_same c.args.journal.now
