use Rattle.std.proofs.Common.{◌≡◌, ◌∙◌, ℕ, List, length, get_or, sym, ap, subst, Some, refl, arith}
use Rattle.std.specs.List.{Contains}
use Rattle.std.proofs.lemmas.List.{get_or_default}
use Rattle.ae_rules.specs.Clauses.{row}
use Rattle.ae_core.specs.declared.formulas.Lit.{Lit}
use Rattle.ae_rules.specs.Defining.{called_rows}
use Rattle.ae_explain.specs.Trail.{at}
use Rattle.ae_explain.specs.declared.trail.Assigned.{Assigned}
use Rattle.ae_sat.specs.Standing.{IsOneOf}
use Rattle.ae_sat.proofs.Propagating.{HasRowsOf, continues_same, continues_more, next_continues, numbers_each}
use Rattle.ae_sat.proofs.solver.Solver.expand_one.Goals as goal

pub loop-number-init : goal.loop-number-init
loop-number-init g c =
    let s = c.args.self.now in
    record {
      continues = continues_same g.T.Equalities.fits g.T.Theory.assumed g.T.Theory.fits_mark g.T.Theory.in_step s.theory s.marks.items s.propagation.trail s.propagation.clauses s.places s.handed s.expanded c.args.lines.now.items;
      trail = refl;
      expanded = refl;
      has = λ k r d l. absurd (omega (arith, l));
    }

pub attach_number-requires-clause-within : goal.attach_number-requires-clause-within
attach_number-requires-clause-within g c = omega (arith, c.requires.left, ap length c.loop-number.invariant.trail)

pub attach_number-requires-clause-alive : goal.attach_number-requires-clause-alive
attach_number-requires-clause-alive g c = (c.requires.alive.0, c.requires.alive.1, c.loop-number.invariant.continues.alive c.requires.alive.0 c.requires.alive.1 c.requires.alive.2)

pub attach_number-requires-clause-called : goal.attach_number-requires-clause-called
attach_number-requires-clause-called g c =
    let s = c.args.self.now in
    let l = c.loop-number in
    let ns = c.as_slice-number-items.result.now in
    let n = get_or ns l.number-index 0 in
    let en : ns ≡ called_rows (at s.propagation.trail s.expanded).lit.positive (at s.propagation.trail s.expanded).lit.formula = c.as_slice-number-items.ensures ∙ (c.in_ok-numbers.ensures ∙ ap (λ (x : Lit). called_rows x.positive x.formula) c.lit_at.ensures) in
    let here : Contains ns n = (l.number-index, c.loop-number-test.true, sym (get_or_default ns l.number-index 0 n c.loop-number-test.true)) in
    subst (λ (t : List Assigned). Contains (called_rows (at t s.expanded).lit.positive (at t s.expanded).lit.formula) n) (sym l.invariant.trail) (subst (λ (w : List ℕ). Contains w n) en here)

pub loop-number-preserved : goal.loop-number-preserved
loop-number-preserved g c =
    let s = c.args.self.now in
    let l = c.loop-number in
    let a = c.attach_number.new.self in
    let e = c.in_ok-attach_number.ensures in
    record {
      continues = continues_more g.T.Equalities.fits g.T.Theory.assumed g.T.Theory.fits_mark g.T.Theory.in_step s.theory l.self.theory a.theory s.marks.items l.self.marks.items a.marks.items s.propagation.trail l.self.propagation.trail a.propagation.trail s.propagation.clauses
          l.self.propagation.clauses a.propagation.clauses s.places l.self.places a.places s.handed l.self.handed a.handed s.expanded l.self.expanded a.expanded c.args.lines.now.items l.lines.items c.attach_number.new.lines.items l.invariant.continues e.continues;
      trail = e.trail ∙ l.invariant.trail;
      expanded = e.expanded ∙ l.invariant.expanded;
      has = λ k r d. numbers_each (λ w. row w (at s.propagation.trail s.expanded).lit.formula ≡ Some d → IsOneOf a.propagation.clauses d) c.as_slice-number-items.result.now l.number-index c.loop-number-test.true
          (λ q. e.has d (ap (λ (t : List Assigned). row (get_or c.as_slice-number-items.result.now l.number-index 0) (at t s.expanded).lit.formula) l.invariant.trail ∙ q))
          (λ j w lt is q. e.still d (l.invariant.has j w d lt is q)) k r;
    }

pub returns-clause-continues : goal.returns-clause-continues
returns-clause-continues g c =
    let s = c.args.self.now in
    let l = c.loop-number in
    let ns = c.as_slice-number-items.result.now in
    let en : ns ≡ called_rows (at s.propagation.trail s.expanded).lit.positive (at s.propagation.trail s.expanded).lit.formula = c.as_slice-number-items.ensures ∙ (c.in_ok-numbers.ensures ∙ ap (λ (x : Lit). called_rows x.positive x.formula) c.lit_at.ensures) in
    let own : HasRowsOf s.propagation.trail s.expanded l.self.propagation.clauses = λ r d h q.
    let k = subst (λ (w : List ℕ). Contains w r) (sym en) h in
    l.invariant.has k.0 r d (omega (arith, k.1, c.loop-number-test.false)) k.2 q in
    next_continues g.T.Equalities.fits g.T.Theory.assumed g.T.Theory.fits_mark g.T.Theory.in_step s.theory l.self.theory s.marks.items l.self.marks.items s.propagation.trail l.self.propagation.trail s.propagation.clauses l.self.propagation.clauses s.places l.self.places
    s.handed l.self.handed s.expanded l.self.expanded c.args.lines.now.items l.lines.items l.invariant.continues l.invariant.trail l.invariant.expanded c.requires.left own

pub returns-clause-next : goal.returns-clause-next
returns-clause-next g c = refl

pub returns-in_err-attach_number-clause-allowed : goal.returns-in_err-attach_number-clause-allowed
returns-in_err-attach_number-clause-allowed g c p n st = c.in_err-attach_number.ensures.allowed p n (c.loop-number.invariant.continues.stated p n st)

pub returns-clause-allowed : goal.returns-clause-allowed
returns-clause-allowed g c p n st = (c.loop-number.invariant.continues.stated p n st).allowed
