use Rattle.std.specs.Prelude.{◌≡◌, Result, Ok, Err}
use Rattle.std.proofs.Common.{sym, ap, ◌∙◌, subst}
use Rattle.std.proofs.lemmas.Result.{err_from_is_err_and}
use Rattle.ae_monoid.specs.Rules.{Contents, rule_at}
use Rattle.ae_theory.specs.declared.theory.Fail.{Fail}
use Rattle.ae_state.specs.declared.holding.Holding.{Holding}
use Rattle.ae_turns.specs.declared.found.Found.{Found}
use Rattle.ae_turns.specs.declared.found.Found.TheVariants.{Nothing, Advanced, Conflict}
use Rattle.ae_turns.specs.Cleared.{AreComposed}
use Rattle.ae_saturation.specs.Inner.Turned.{IsTurned}
use Rattle.ae_saturation.proofs.Keeping.{reps_still}
use Rattle.ae_turns.proofs.Budgets.{within_never}
use Rattle.ae_saturation.proofs.Sequels.{then_turned}
use Rattle.ae_saturation.proofs.Spending.{waiting_spends}
use Rattle.ae_saturation.proofs.turning.take_up.Goals as goal

pub returns-in_err-first_waiting-clause-turned : goal.returns-in_err-first_waiting-clause-turned
returns-in_err-first_waiting-clause-turned c =
    let u = c.in_err-first_waiting.ensures in
    let p = err_from_is_err_and c.from_residual.result c.from_residual.ensures.1 in
    subst (λ (r : Result Found Fail). IsTurned c.args.store.now c.args.held.now c.args.journal.now r c.first_waiting.new.held c.first_waiting.new.journal) (sym (p.1 ∙ ap (λ (f : Fail). Err f) p.2))
    (record {
      leads = u.leads;
      taken = tt;
      step = tt;
      steps = u.steps;
      number = u.number;
      advanced = u.advanced;
      conflict = u.conflict;
      budget = within_never Found c.args.store.now c.args.held.now c.first_waiting.new.held c.args.journal.now.lines c.first_waiting.new.journal.lines (Err c.in_err-first_waiting.field-0.0)
          (λ n h. let z : ◌≡◌ {A = Result Found Fail} (Err c.in_err-first_waiting.field-0.0) (Ok Nothing) = u.idle h.none_waits in cc z);
    })

pub look-requires-clause-reps : goal.look-requires-clause-reps
look-requires-clause-reps c =
    let q : c.first_waiting.result ≡ Ok Nothing = c.in_ok-first_waiting.was ∙ ap (λ (f : Found). Ok f) c.in-Nothing.is in
    reps_still c.args.store.now c.args.held.now c.first_waiting.new.held (ap (λ (h : Holding). h.values) (c.first_waiting.ensures.stays q)) c.args.reps.now c.requires.reps

pub look-requires-clause-composed : goal.look-requires-clause-composed
look-requires-clause-composed c =
    let q : c.first_waiting.result ≡ Ok Nothing = c.in_ok-first_waiting.was ∙ ap (λ (f : Found). Ok f) c.in-Nothing.is in
    subst (λ (r : Contents). AreComposed c.args.reps.now (λ n. rule_at r n)) (sym (c.first_waiting.ensures.rules q)) c.requires.composed

pub returns-in-Nothing-clause-turned : goal.returns-in-Nothing-clause-turned
returns-in-Nothing-clause-turned c =
    let q : c.first_waiting.result ≡ Ok Nothing = c.in_ok-first_waiting.was ∙ ap (λ (f : Found). Ok f) c.in-Nothing.is in
    let w = c.first_waiting.ensures in
    then_turned c.args.store.now c.args.held.now c.first_waiting.new.held c.args.journal.now c.first_waiting.new.journal c.first_waiting.ensures.leads
    (waiting_spends c.args.store.now c.args.held.now c.first_waiting.new.held c.args.journal.now c.first_waiting.new.journal (w.stays q) (w.rules q) (w.none q) (w.lines q)) c.look.result c.look.new.held c.look.new.journal
    c.look.ensures.turned

-- ---- one that isn't given up
pub returns-in-Advanced-clause-turned : goal.returns-in-Advanced-clause-turned
returns-in-Advanced-clause-turned c =
    let w = c.first_waiting.ensures in
    let q : c.first_waiting.result ≡ Ok Advanced = c.in_ok-first_waiting.was ∙ ap (λ (f : Found). Ok f) c.in-Advanced.is in
    subst (λ (r : Result Found Fail). IsTurned c.args.store.now c.args.held.now c.args.journal.now r c.first_waiting.new.held c.first_waiting.new.journal) q
    (record {
      leads = w.leads;
      taken = w.taken;
      step = w.step;
      steps = w.steps;
      number = w.number;
      advanced = w.advanced;
      conflict = w.conflict;
      budget =
          within_never Found c.args.store.now c.args.held.now c.first_waiting.new.held c.args.journal.now.lines c.first_waiting.new.journal.lines c.first_waiting.result
          (λ n h. let z : ◌≡◌ {A = Result Found Fail} (Ok Advanced) (Ok Nothing) = sym q ∙ w.idle h.none_waits in cc z);
    })

pub returns-in-Conflict-clause-turned : goal.returns-in-Conflict-clause-turned
returns-in-Conflict-clause-turned c =
    let w = c.first_waiting.ensures in
    let q : c.first_waiting.result ≡ Ok (Conflict c.in-Conflict.number) = c.in_ok-first_waiting.was ∙ ap (λ (f : Found). Ok f) c.in-Conflict.is in
    subst (λ (r : Result Found Fail). IsTurned c.args.store.now c.args.held.now c.args.journal.now r c.first_waiting.new.held c.first_waiting.new.journal) q
    (record {
      leads = w.leads;
      taken = w.taken;
      step = w.step;
      steps = w.steps;
      number = w.number;
      advanced = w.advanced;
      conflict = w.conflict;
      budget =
          within_never Found c.args.store.now c.args.held.now c.first_waiting.new.held c.args.journal.now.lines c.first_waiting.new.journal.lines c.first_waiting.result
          (λ n h. let z : ◌≡◌ {A = Result Found Fail} (Ok (Conflict c.in-Conflict.number)) (Ok Nothing) = sym q ∙ w.idle h.none_waits in cc z);
    })
