use Rattle.std.specs.Prelude.{List, Err, ◌≡◌, ◌⊎◌}
use Rattle.std.proofs.Common.{sym, ap, subst, inl, inr}
use Rattle.std.proofs.lemmas.Result.{err_from_is_err_and}
use Rattle.ae_store.specs.Shapes.{shapes}
use Rattle.ae_store.specs.Terms.{terms}
use Rattle.ae_bounds.specs.declared.rows.Row.{Row}
use Rattle.ae_bounds.specs.Rounding.{AreRounded}
use Rattle.ae_bounds.specs.Combinations.{AreClosed}
use Rattle.ae_bounds.specs.Findings.{HasRefuted}
use Rattle.ae_theory.specs.declared.theory.Fail.TheVariants.{Number}
use Rattle.ae_ineq.specs.Widths.{IsPointWide}
use Rattle.ae_bound_points.specs.Points.{IsNonzeroRow}
use Rattle.ae_bound_widths.specs.Fractions.{AreFinished}
use Rattle.ae_bound_widths.proofs.Left.{solved_licensed}
use Rattle.ae_bound_solve.specs.Given.{AreAllGiven, AreOpaqueNames}
use Rattle.ae_bound_solve.proofs.Extended.{given_on, names_on}
use Rattle.ae_bound_solve.proofs.solving.solve.Goals as goal

pub answer_of-requires-clause-closed : goal.answer_of-requires-clause-closed
answer_of-requires-clause-closed c = subst (λ (rs : List Row). AreClosed rs ⊎ HasRefuted rs) (sym c.rows.ensures.rows) c.in_ok-close.ensures.closed

pub answer_of-requires-clause-were_rounded : goal.answer_of-requires-clause-were_rounded
answer_of-requires-clause-were_rounded c = subst (λ (rs : List Row). AreRounded rs) (sym c.rows.ensures.rows) c.rows.ensures.rounded

pub answer_of-requires-clause-given : goal.answer_of-requires-clause-given
answer_of-requires-clause-given c =
    subst (λ (rs : List Row). AreAllGiven c.args.store.now.signature (terms (shapes c.args.store.now.nodes)) rs c.args.given.now) (sym c.rows.ensures.rows)
    (given_on c.args.bounds.now c.args.journal.now.lines c.close.new.self c.close.new.journal.lines c.close.ensures.extended c.args.store.now.signature (terms (shapes c.args.store.now.nodes)) c.args.given.now c.requires.given)

pub answer_of-requires-clause-opaque : goal.answer_of-requires-clause-opaque
answer_of-requires-clause-opaque c =
    subst (λ (rs : List Row). AreOpaqueNames (terms (shapes c.args.store.now.nodes)) rs) (sym c.rows.ensures.rows)
    (names_on c.args.bounds.now c.args.journal.now.lines c.close.new.self c.close.new.journal.lines c.close.ensures.extended (terms (shapes c.args.store.now.nodes)) c.requires.opaque)

pub returns-in_err-close-clause-licensed : goal.returns-in_err-close-clause-licensed
returns-in_err-close-clause-licensed c = λ w x e step over given.
    let p = err_from_is_err_and c.from_residual.result c.from_residual.ensures.1 in
    let failed : c.in_err-close.field-0.0 ≡ Number w = (let a = p.1 in let b = p.2 in cc) in
    solved_licensed x c.args.bounds.now c.close.new.self c.args.journal.now.lines c.close.new.journal.lines w c.close.ensures.extended (inl (c.in_err-close.ensures.number w (ap Err failed))) step over given

pub returns-clause-number : goal.returns-clause-number
returns-clause-number c = λ w e. inr (subst (λ (rs : List Row). IsPointWide (IsNonzeroRow rs) w × AreFinished rs) c.rows.ensures.rows (c.answer_of.ensures.number w e))

pub returns-clause-licensed : goal.returns-clause-licensed
returns-clause-licensed c = λ w x e step over given.
    solved_licensed x c.args.bounds.now c.close.new.self c.args.journal.now.lines c.close.new.journal.lines w c.close.ensures.extended
    (inr (subst (λ (rs : List Row). IsPointWide (IsNonzeroRow rs) w × AreFinished rs) c.rows.ensures.rows (c.answer_of.ensures.number w e))) step over given
