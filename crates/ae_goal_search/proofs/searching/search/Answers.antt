use Rattle.std.specs.Prelude.{◌≡◌, ℕ, List, take, Ok, Err}
use Rattle.std.proofs.Common.{sym, ap, ◌∙◌, subst, arith}
use Rattle.std.proofs.Math.Seq.{take-length}
use Rattle.ae_rules.specs.Clauses.{Clause}
use Rattle.ae_journal.specs.Journals.{counted_in, live, decisions}
use Rattle.ae_journal.specs.declared.lines.Line.{Line}
use Rattle.ae_theory.specs.declared.theory.Fail.{Fail}
use Rattle.ae_theory.specs.declared.theory.Fail.TheVariants.{Steps as OutOfSteps, Number}
use Rattle.ae_sat.specs.Apart.{AreConjunctive}
use Rattle.ae_sat.specs.Marked.{atoms}
use Rattle.ae_sat.specs.Search.{AllAmong}
use Rattle.ae_sat.specs.Standing.{IsOneOf}
use Rattle.ae_sat.specs.declared.run.SatEnd.{SatEnd}
use Rattle.ae_choice_clauses.proofs.Begun.{choices_over}
use Rattle.ae_goal_search.proofs.Begun.{same_signature, terms_named, lines_state}
use Rattle.ae_goal_search.proofs.Passing.{passed}
use Rattle.ae_goal_search.proofs.Left.{left_early, left_after, wide_after}
use Rattle.ae_goal_search.proofs.Settling.{firsts_kept}
use Rattle.ae_goal_search.proofs.searching.search.Goals as goal

pub started-requires : goal.started-requires
started-requires g c = record { nothing = c.requires.nothing }

pub run-requires : goal.run-requires
run-requires g c =
    let js = c.args.journal.now.lines in
    let none = c.requires.none in
    record {
      alive = c.in_ok-solver.ensures.alive c.args.store.now js c.requires.fits (subst (λ (ws : List Line). g.T.Theory.in_step c.args.theory (live ws)) (sym none) c.requires.step)
          (ap (λ (ws : List Line). decisions (live ws)) none) (terms_named c.args.problem.now c.args.goal c.args.lines.now.items c.args.clauses.now c.args.store.now c.requires.started);
    }

-- ---- what is left
pub returns-in_err-solver-clause-left : goal.returns-in_err-solver-clause-left
returns-in_err-solver-clause-left g c =
    left_early c.args.problem.now c.args.goal c.args.lines.now.items c.args.clauses.now c.args.store.now c.requires.started c.args.journal.now.lines c.requires.none

pub returns-in_err-run-clause-left : goal.returns-in_err-run-clause-left
returns-in_err-run-clause-left g c =
    let v = c.in_ok-solver.solver in
    let e = c.in_ok-solver.ensures in
    left_after c.args.problem.now c.args.goal c.args.lines.now.items c.args.clauses.now c.args.store.now c.requires.started c.args.journal.now.lines c.requires.none
    v.propagation.clauses v.places v.propagation.trail v.expanded e.clauses e.places e.trail e.expanded c.run.new.journal.lines _ c.run.new.lines.items c.run.ensures.allowed c.run.ensures.legal

pub returns-in-Refuted-clause-left : goal.returns-in-Refuted-clause-left
returns-in-Refuted-clause-left g c =
    let v = c.in_ok-solver.solver in
    let e = c.in_ok-solver.ensures in
    left_after c.args.problem.now c.args.goal c.args.lines.now.items c.args.clauses.now c.args.store.now c.requires.started c.args.journal.now.lines c.requires.none
    v.propagation.clauses v.places v.propagation.trail v.expanded e.clauses e.places e.trail e.expanded c.run.new.journal.lines _ c.run.new.lines.items c.run.ensures.allowed c.run.ensures.legal

pub returns-in-Open-clause-left : goal.returns-in-Open-clause-left
returns-in-Open-clause-left g c =
    let v = c.in_ok-solver.solver in
    let e = c.in_ok-solver.ensures in
    left_after c.args.problem.now c.args.goal c.args.lines.now.items c.args.clauses.now c.args.store.now c.requires.started c.args.journal.now.lines c.requires.none
    v.propagation.clauses v.places v.propagation.trail v.expanded e.clauses e.places e.trail e.expanded c.run.new.journal.lines _ c.run.new.lines.items c.run.ensures.allowed c.run.ensures.legal

-- ---- what it comes to
pub returns-in-Refuted-clause-end : goal.returns-in-Refuted-clause-end
returns-in-Refuted-clause-end g c = record {
  ends = c.run.ensures.refuted (c.in_ok-run.was ∙ ap (λ (x : SatEnd). Ok x) c.in-Refuted.is);
  over = λ fs h a. c.in_ok-run.ensures.lines fs h (subst (AllAmong fs) (sym c.in_ok-solver.ensures.clauses) a);
}

pub returns-in-Open-clause-end : goal.returns-in-Open-clause-end
returns-in-Open-clause-end g c =
    let p = c.args.problem.now in
    let n = c.args.goal in
    let s = c.args.store.now in
    let firsts = c.args.lines.now.items in
    let cs = c.args.clauses.now in
    let start = c.requires.started in
    let v = c.in_ok-solver.solver in
    let e = c.in_ok-solver.ensures in
    let w = c.run.new.self in
    let r = c.in_ok-run.ensures in
    let q = c.in_ok-run.was ∙ ap (λ (x : SatEnd). Ok x) c.in-Open.is in
    let run = r.alive.running in
    let st = lines_state p n firsts cs s start v.propagation.clauses v.places e.clauses e.places in (
      record {
        kept = λ d o. r.kept d (subst (λ (ds : List Clause). IsOneOf ds d) (sym e.clauses) o);
        firsts = firsts_kept p n firsts cs s start w.propagation.clauses (λ d o. r.kept d (subst (λ (ds : List Clause). IsOneOf ds d) (sym e.clauses) o));
        formulas = λ fs h a. r.formulas fs h (subst (AllAmong fs) (sym e.clauses) a);
        over = choices_over p n start.before s start.firsts firsts start.first cs start.choices start.begun start.reach c.run.new.lines.items w.propagation.clauses w.places
            (λ fs h a. r.formulas fs h (subst (AllAmong fs) (sym e.clauses) a)) (r.stated p n (same_signature p n firsts cs s start) st);
        lawful = run.lawful;
        decided = run.stands;
        all_true = c.run.ensures.open_clauses q;
        named = r.alive.named;
      },
      r.alive.fits_store,
      run.told_all ∙ ap atoms (ap (λ (k : ℕ). take k w.propagation.trail) (c.run.ensures.told q) ∙ take-length w.propagation.trail),
      c.run.ensures.complete q,
    )

-- ---- where it is stopped
pub returns-in_err-run-clause-steps : goal.returns-in_err-run-clause-steps
returns-in_err-run-clause-steps g c q =
    c.in_err-run.ensures.steps (ap (λ (f : Fail). Err f) (passed c.from_residual-in_err-run.result c.in_err-run.field-0.0 OutOfSteps c.from_residual-in_err-run.ensures.1 q)) ∙ c.run.ensures.journal.limit

pub returns-in_err-run-clause-number : goal.returns-in_err-run-clause-number
returns-in_err-run-clause-number g c wide q =
    let v = c.in_ok-solver.solver in
    let e = c.in_ok-solver.ensures in
    wide_after c.args.problem.now c.args.goal c.args.lines.now.items c.args.clauses.now c.args.store.now c.requires.started c.args.journal.now.lines c.requires.none
    v.propagation.clauses v.places v.propagation.trail v.expanded e.clauses e.places e.trail e.expanded c.run.new.journal.lines wide
    (c.in_err-run.ensures.number wide (ap (λ (f : Fail). Err f) (passed c.from_residual-in_err-run.result c.in_err-run.field-0.0 (Number wide) c.from_residual-in_err-run.ensures.1 q)))

-- ---- how many lines are noted
pub returns-in_err-solver-clause-few : goal.returns-in_err-solver-clause-few
returns-in_err-solver-clause-few g c n cj may = let z : counted_in c.args.journal.now.lines ≡ 0 = ap counted_in c.requires.none in omega (arith, z)

pub returns-in_err-run-clause-few : goal.returns-in_err-run-clause-few
returns-in_err-run-clause-few g c n cj may =
    let e = c.in_ok-solver.ensures in
    let z : counted_in c.args.journal.now.lines ≡ 0 = ap counted_in c.requires.none in
    omega (arith, c.run.ensures.budget n (record { none = e.trail; conjunctive = subst AreConjunctive (sym e.clauses) cj }) (subst (λ o. g.T.Theory.may_note o c.args.store.now n) (sym e.theory) may), z)

pub returns-in-Refuted-clause-few : goal.returns-in-Refuted-clause-few
returns-in-Refuted-clause-few g c n cj may =
    let e = c.in_ok-solver.ensures in
    let z : counted_in c.args.journal.now.lines ≡ 0 = ap counted_in c.requires.none in
    omega (arith, c.run.ensures.budget n (record { none = e.trail; conjunctive = subst AreConjunctive (sym e.clauses) cj }) (subst (λ o. g.T.Theory.may_note o c.args.store.now n) (sym e.theory) may), z)

pub returns-in-Open-clause-few : goal.returns-in-Open-clause-few
returns-in-Open-clause-few g c n cj may =
    let e = c.in_ok-solver.ensures in
    let z : counted_in c.args.journal.now.lines ≡ 0 = ap counted_in c.requires.none in
    omega (arith, c.run.ensures.budget n (record { none = e.trail; conjunctive = subst AreConjunctive (sym e.clauses) cj }) (subst (λ o. g.T.Theory.may_note o c.args.store.now n) (sym e.theory) may), z)

pub returns-in_err-run-clause-fewer : goal.returns-in_err-run-clause-fewer
returns-in_err-run-clause-fewer g c q n cj may =
    let e = c.in_ok-solver.ensures in
    let z : counted_in c.args.journal.now.lines ≡ 0 = ap counted_in c.requires.none in
    omega (arith, c.in_err-run.ensures.budget_left (ap (λ (f : Fail). Err f) (passed c.from_residual-in_err-run.result c.in_err-run.field-0.0 OutOfSteps c.from_residual-in_err-run.ensures.1 q)) n (record { none = e.trail; conjunctive = subst AreConjunctive (sym e.clauses) cj }) (subst (λ o. g.T.Theory.may_note o c.args.store.now n) (sym e.theory) may), z)
