use Rattle.std.specs.Prelude.{drop}
use Rattle.std.proofs.Common.{refl, sym, ap, ◌∙◌}
use Rattle.ae_equations.specs.Held.{Contents as Equations}
use Rattle.ae_equations.specs.Paired.{partners}
use Rattle.ae_equations.specs.Queued.{waiting}
use Rattle.ae_journal.specs.Journals.{live}
use Rattle.ae_monoid.specs.Rules.{Contents as Rules, rule_at}
use Rattle.ae_turns.proofs.DroppedRules.{same_leads}
use Rattle.ae_turns.proofs.Steps.{going_on_leads}
use Rattle.ae_orienting.proofs.Taking.{step_then, reps_then, equations_then, stays_then, wide_then, given_leads, given_taken, given_step, came_together, falls_from}
use Rattle.ae_orienting.proofs.waiting.take_up_first.Goals as goal

-- ---- no memory
pub returns-in_err-equation-clause-leads : goal.returns-in_err-equation-clause-leads
returns-in_err-equation-clause-leads c = c.reduced_first.ensures.leads c.args.journal.now

pub returns-in_err-forget_first-clause-leads : goal.returns-in_err-forget_first-clause-leads
returns-in_err-forget_first-clause-leads c =
    let s = c.args.store.now in
    let p = c.reduced_first.new.held in
    let j = c.args.journal.now in
    let d = c.forget_first.new.self in
    going_on_leads s c.args.held.now p (record p { equations = d }) j j j (c.reduced_first.ensures.leads j)
    (same_leads s p (c.reduced_first.ensures.taken).fits d c.forget_first.ensures.lasts j
    (record {
      rules = λ n. ap (λ (r : Rules). rule_at r n) c.forget_first.ensures.rules;
      len = ap (λ (r : Rules). r.next) c.forget_first.ensures.rules;
      pairs = λ n. ap (λ ps. partners ps n) c.forget_first.ensures.pairs;
      waiting = c.in_err-forget_first.ensures.err;
    }))

-- ---- given up
pub returns-then-are_equal-clause-leads : goal.returns-then-are_equal-clause-leads
returns-then-are_equal-clause-leads c =
    given_leads c.args.store.now c.args.held.now c.reduced_first.new.held c.args.journal.now (c.reduced_first.ensures.leads c.args.journal.now) c.reduced_first.ensures.taken c.forget_first.new.self
    c.forget_first.ensures.rules c.forget_first.ensures.pairs c.forget_first.ensures.lasts c.in_ok-forget_first.ensures.ok

pub returns-then-are_equal-clause-taken : goal.returns-then-are_equal-clause-taken
returns-then-are_equal-clause-taken c =
    given_taken c.args.store.now c.args.held.now c.reduced_first.new.held c.args.journal.now (c.reduced_first.ensures.leads c.args.journal.now) c.reduced_first.ensures.taken c.forget_first.new.self
    c.forget_first.ensures.rules c.forget_first.ensures.pairs c.forget_first.ensures.lasts c.in_ok-forget_first.ensures.ok

pub returns-then-are_equal-clause-step : goal.returns-then-are_equal-clause-step
returns-then-are_equal-clause-step c =
    let ls = live c.args.journal.now.lines in
    given_step c.args.store.now c.args.held.now c.reduced_first.new.held c.args.journal.now (c.reduced_first.ensures.leads c.args.journal.now) c.reduced_first.ensures.taken c.forget_first.new.self
    c.forget_first.ensures.rules c.forget_first.ensures.pairs c.forget_first.ensures.lasts c.in_ok-forget_first.ensures.ok ls
    (step_then c.args.held.now c.reduced_first.new.held c.reduced_first.ensures.others ls c.requires.step)

pub returns-then-are_equal-clause-stays : goal.returns-then-are_equal-clause-stays
returns-then-are_equal-clause-stays c = λ h. stays_then c.args.held.now c.reduced_first.new.held c.reduced_first.ensures.others c.forget_first.new.self

pub returns-then-are_equal-clause-rules : goal.returns-then-are_equal-clause-rules
returns-then-are_equal-clause-rules c = λ h. c.forget_first.ensures.rules ∙ ap (λ (d : Equations). d.rules) (equations_then c.args.held.now c.reduced_first.new.held c.reduced_first.ensures.others)

pub returns-then-are_equal-clause-pairs : goal.returns-then-are_equal-clause-pairs
returns-then-are_equal-clause-pairs c = λ h. c.forget_first.ensures.pairs ∙ ap (λ (d : Equations). d.pairs) (equations_then c.args.held.now c.reduced_first.new.held c.reduced_first.ensures.others)

pub returns-then-are_equal-clause-given_up : goal.returns-then-are_equal-clause-given_up
returns-then-are_equal-clause-given_up c = λ h.
    c.in_ok-forget_first.ensures.ok ∙ ap (λ (d : Equations). drop 1 (waiting d.queue)) (equations_then c.args.held.now c.reduced_first.new.held c.reduced_first.ensures.others)

pub returns-then-are_equal-clause-meets : goal.returns-then-are_equal-clause-meets
returns-then-are_equal-clause-meets c = λ w at h.
    came_together c.args.store.now c.reduced_first.new.held c.args.reps.now c.in_ok-equation.equation c.in_ok-equation.ensures.first
    (sym c.as_slice.ensures ∙ c.are_equal.ensures.yes c.if-are_equal.true ∙ c.as_slice-2.ensures) c.args.held.now.equations
    (equations_then c.args.held.now c.reduced_first.new.held c.reduced_first.ensures.others) w at

-- ---- two names
pub solve-requires-clause-step : goal.solve-requires-clause-step
solve-requires-clause-step c = step_then c.args.held.now c.reduced_first.new.held c.reduced_first.ensures.others (live c.args.journal.now.lines) c.requires.step

pub solve-requires-clause-reps : goal.solve-requires-clause-reps
solve-requires-clause-reps c = reps_then c.args.held.now c.reduced_first.new.held c.reduced_first.ensures.others c.args.reps.now c.requires.reps

pub solve-requires-clause-falls : goal.solve-requires-clause-falls
solve-requires-clause-falls c =
    falls_from c.in_ok-equation.equation.left c.in_ok-equation.equation.right (λ e. c.are_equal.ensures.no c.if-are_equal.false (c.as_slice.ensures ∙ e ∙ sym c.as_slice-2.ensures)) c.in_ok-equation.ensures.falls

pub returns-then-len-lt2-clause-leads : goal.returns-then-len-lt2-clause-leads
returns-then-len-lt2-clause-leads c =
    let j = c.args.journal.now in
    going_on_leads c.args.store.now c.args.held.now c.reduced_first.new.held c.solve.new.held j j c.solve.new.journal (c.reduced_first.ensures.leads j) c.solve.ensures.leads

pub returns-then-len-lt2-clause-number : goal.returns-then-len-lt2-clause-number
returns-then-len-lt2-clause-number c = λ wide e.
    let ls = c.args.journal.now.lines in
    wide_then c.args.store.now c.args.held.now c.reduced_first.new.held ls ls c.solve.new.journal.lines wide (c.reduced_first.ensures.leads c.args.journal.now).assumed refl (c.solve.ensures.number wide e)

-- ---- a rule
pub orient-requires-clause-step : goal.orient-requires-clause-step
orient-requires-clause-step c = step_then c.args.held.now c.reduced_first.new.held c.reduced_first.ensures.others (live c.args.journal.now.lines) c.requires.step

pub orient-requires-clause-reps : goal.orient-requires-clause-reps
orient-requires-clause-reps c = reps_then c.args.held.now c.reduced_first.new.held c.reduced_first.ensures.others c.args.reps.now c.requires.reps

pub orient-requires-clause-falls : goal.orient-requires-clause-falls
orient-requires-clause-falls c =
    falls_from c.in_ok-equation.equation.left c.in_ok-equation.equation.right (λ e. c.are_equal.ensures.no c.if-are_equal.false (c.as_slice.ensures ∙ e ∙ sym c.as_slice-2.ensures)) c.in_ok-equation.ensures.falls

pub returns-clause-leads : goal.returns-clause-leads
returns-clause-leads c =
    let j = c.args.journal.now in
    going_on_leads c.args.store.now c.args.held.now c.reduced_first.new.held c.orient.new.held j j c.orient.new.journal (c.reduced_first.ensures.leads j) c.orient.ensures.leads

pub returns-clause-number : goal.returns-clause-number
returns-clause-number c = λ wide e.
    let ls = c.args.journal.now.lines in
    wide_then c.args.store.now c.args.held.now c.reduced_first.new.held ls ls c.orient.new.journal.lines wide (c.reduced_first.ensures.leads c.args.journal.now).assumed refl (c.orient.ensures.number wide e)
