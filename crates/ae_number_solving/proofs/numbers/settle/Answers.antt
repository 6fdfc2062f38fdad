use Rattle.std.specs.Prelude.{length, Err}
use Rattle.std.proofs.Common.{refl, sym, subst}
use Rattle.std.proofs.lemmas.Result.{on_ok_weaker}
use Rattle.ae_num.specs.Forms.{meaning}
use Rattle.ae_journal.specs.Journals.{live}
use Rattle.ae_conflicts.specs.declared.conflicts.Conflict.TheVariants as conflict
use Rattle.ae_linear.specs.Solving.{IsSolved}
use Rattle.ae_state.specs.Stepping.{IsInStep}
use Rattle.ae_state.specs.declared.holding.Holding.{Holding}
use Rattle.ae_turns.specs.declared.found.Found.{Found}
use Rattle.ae_turns.specs.declared.found.Found.TheVariants as found
use Rattle.ae_turns.specs.Budget.{MayNote}
use Rattle.ae_turns.specs.Representing.{IsTaken}
use Rattle.ae_turns.proofs.Budgets.{within_still}
use Rattle.ae_turns.proofs.Steps.{staying_leads}
use Rattle.ae_number_solving.specs.Inner.Widths.{IsScalingWide}
use Rattle.ae_number_solving.proofs.SumWidths.{number_is}
use Rattle.ae_number_solving.proofs.Joining.{not_zero, constant_is_conflict, scaling_licensed}
use Rattle.ae_number_solving.proofs.KeptConflicts.{taken_conflicted, step_conflicted}
use Rattle.ae_number_solving.proofs.Ends.{found_same, ok_is, others_of, kept_leads, kept_others, kept_own}
use Rattle.ae_number_solving.proofs.numbers.settle.Goals as goal

pub solution-requires : goal.solution-requires
solution-requires c = c.requires.difference.difference.over.normal

-- ---- the numbers differ
pub unreachable-requires : goal.unreachable-requires
unreachable-requires c =
    let q = c.requires.difference in
    let d = c.args.difference.now in
    absurd (not_zero c.args.store.now c.args.held.now c.args.real q.left q.right q.equal q.equated d.form d.zero q.difference (subst (IsSolved (meaning d.form)) c.in-Trivial.is c.in-Ok.ensures.exact))

-- ---- a conflict
pub returns-in-Bottom-clause-leads : goal.returns-in-Bottom-clause-leads
returns-in-Bottom-clause-leads c =
    kept_leads c.args.held.now c.keep_constant.new.held (conflict.Constant c.args.difference.now.zero) c.keep_constant.result c.keep_constant.ensures.kept c.keep_constant.ensures.err c.args.store.now
    c.requires.difference.equated.taken c.args.journal.now

pub returns-in-Bottom-clause-taken : goal.returns-in-Bottom-clause-taken
returns-in-Bottom-clause-taken c =
    on_ok_weaker c.keep_constant.result
    (λ e. subst (λ (q : Holding). IsTaken q c.args.store.now) (sym e) (taken_conflicted c.args.held.now (conflict.Constant c.args.difference.now.zero) c.args.store.now c.requires.difference.equated.taken))
    c.keep_constant.ensures.kept

pub returns-in-Bottom-clause-step : goal.returns-in-Bottom-clause-step
returns-in-Bottom-clause-step c =
    let js = live c.args.journal.now.lines in
    on_ok_weaker c.keep_constant.result
    (λ e. subst (λ (q : Holding). IsInStep q js) (sym e) (step_conflicted c.args.held.now (conflict.Constant c.args.difference.now.zero) js c.requires.step)) c.keep_constant.ensures.kept

pub returns-in-Bottom-clause-steps : goal.returns-in-Bottom-clause-steps
returns-in-Bottom-clause-steps c = λ e. absurd (c.keep_constant.ensures.steps e)

pub returns-in-Bottom-clause-number : goal.returns-in-Bottom-clause-number
returns-in-Bottom-clause-number c = λ wide e. absurd (c.keep_constant.ensures.number wide e)

pub returns-in-Bottom-clause-advanced : goal.returns-in-Bottom-clause-advanced
returns-in-Bottom-clause-advanced c = λ e. let n = found_same c.keep_constant.result (found.Conflict (length c.args.held.now.conflicts)) found.Advanced c.keep_constant.ensures.found e in absurd (cc n)

pub returns-in-Bottom-clause-conflict : goal.returns-in-Bottom-clause-conflict
returns-in-Bottom-clause-conflict c = λ k e.
    let q = c.requires.difference in
    let d = c.args.difference.now in
    kept_own c.args.held.now c.keep_constant.new.held (conflict.Constant d.zero) k (ok_is c.keep_constant.result (found.Conflict k) c.keep_constant.ensures.kept e)
    (constant_is_conflict c.args.store.now c.args.held.now c.args.real q.left q.right q.equal q.equated d.form d.zero q.difference (subst (IsSolved (meaning d.form)) c.in-Bottom.is c.in-Ok.ensures.exact))
    (found_same c.keep_constant.result (found.Conflict (length c.args.held.now.conflicts)) (found.Conflict k) c.keep_constant.ensures.found e)

pub returns-in-Bottom-clause-never : goal.returns-in-Bottom-clause-never
returns-in-Bottom-clause-never c = λ e. let n = found_same c.keep_constant.result (found.Conflict (length c.args.held.now.conflicts)) found.Nothing c.keep_constant.ensures.found e in absurd (cc n)

pub returns-in-Bottom-clause-others : goal.returns-in-Bottom-clause-others
returns-in-Bottom-clause-others c =
    kept_others c.args.held.now c.keep_constant.new.held (conflict.Constant c.args.difference.now.zero) c.keep_constant.result c.keep_constant.ensures.kept c.keep_constant.ensures.err

-- ---- a solution
pub solve-requires-clause-solves : goal.solve-requires-clause-solves
solve-requires-clause-solves c = subst (IsSolved (meaning c.args.difference.now.form)) c.in-Rule.is c.in-Ok.ensures.exact

pub returns-in-Rule-clause-advanced : goal.returns-in-Rule-clause-advanced
returns-in-Rule-clause-advanced c = λ e. ok_is c.solve.result found.Advanced c.solve.ensures.counted e

pub returns-in-Rule-clause-conflict : goal.returns-in-Rule-clause-conflict
returns-in-Rule-clause-conflict c = λ k e. let n = found_same c.solve.result found.Advanced (found.Conflict k) c.solve.ensures.found e in absurd (cc n)

pub returns-in-Rule-clause-never : goal.returns-in-Rule-clause-never
returns-in-Rule-clause-never c = λ e. let n = found_same c.solve.result found.Advanced found.Nothing c.solve.ensures.found e in absurd (cc n)

pub returns-in-Rule-clause-others : goal.returns-in-Rule-clause-others
returns-in-Rule-clause-others c = others_of c.args.held.now c.solve.new.held c.solve.new.held.values c.solve.new.held.justs c.args.held.now.conflicts c.solve.ensures.others

-- ---- the solution leaves the limits, or memory is refused
pub scaling_refused-requires-clause-form : goal.scaling_refused-requires-clause-form
scaling_refused-requires-clause-form c = c.requires.difference.difference.over.normal

pub returns-in-Err-clause-leads : goal.returns-in-Err-clause-leads
returns-in-Err-clause-leads c = staying_leads c.args.store.now c.args.held.now c.args.journal.now c.requires.difference.equated.taken.fits

pub returns-in-Err-clause-steps : goal.returns-in-Err-clause-steps
returns-in-Err-clause-steps c = λ e. absurd (c.failed.ensures.steps (cc e))

pub returns-in-Err-clause-number : goal.returns-in-Err-clause-number
returns-in-Err-clause-number c = λ wide e.
    let q = c.requires.difference in
    let d = c.args.difference.now in
    let refused = c.failed.ensures.number wide (cc e) in
    scaling_licensed c.args.store.now c.args.held.now c.args.real q.left q.right q.equal q.equated d.form d.zero q.difference c.stores_are_in_step.ensures c.widths_of_solving_are_licensed.ensures.scalings c.args.journal.now.lines wide
    c.requires.step (number_is (IsScalingWide d.form) c.scaling_refused.result wide c.scaling_refused.ensures refused)

-- ---- how many lines may be noted
pub returns-in-Bottom-clause-budget : goal.returns-in-Bottom-clause-budget
returns-in-Bottom-clause-budget c =
    let s = c.args.store.now in
    let ls = c.args.journal.now.lines in
    within_still s c.args.held.now c.keep_constant.new.held ls ls refl Found c.keep_constant.result
    (on_ok_weaker c.keep_constant.result (λ e n h. subst (λ (q : Holding). MayNote q s n) (sym e) h) c.keep_constant.ensures.kept) c.keep_constant.ensures.steps

pub returns-in-Err-clause-budget : goal.returns-in-Err-clause-budget
returns-in-Err-clause-budget c =
    let ls = c.args.journal.now.lines in
    within_still c.args.store.now c.args.held.now c.args.held.now ls ls refl Found (Err c.failed.result) tt (λ e. c.failed.ensures.steps (cc e))
