use Rattle.std.specs.Prelude.{◌≡◌, Result, Ok, Err, OnOk}
use Rattle.std.proofs.Common.{sym, ap, ◌∙◌, subst}
use Rattle.std.proofs.lemmas.Result.{err_from_is_err_and}
use Rattle.ae_monoid.specs.Rules.{Contents, rule_at, AreRules}
use Rattle.ae_settled.specs.Swept.{IsSwept}
use Rattle.ae_sweeps.specs.Given.{rep_in}
use Rattle.ae_theory.specs.declared.theory.Fail.{Fail}
use Rattle.ae_state.specs.declared.holding.Holding.{Holding}
use Rattle.ae_state.specs.Complete.{IsComplete}
use Rattle.ae_state.specs.Names.{rules_now}
use Rattle.ae_turns.specs.declared.found.Found.{Found}
use Rattle.ae_turns.specs.declared.found.Found.TheVariants.{Nothing}
use Rattle.ae_turns.specs.Budget.{Spends}
use Rattle.ae_turns.specs.Cleared.{AreComposed}
use Rattle.ae_saturation.specs.Inner.Turned.{IsTurned}
use Rattle.ae_saturation.proofs.Completion.{complete}
use Rattle.ae_saturation.proofs.Sequels.{then_turned}
use Rattle.ae_saturation.proofs.turning.look.Goals as goal

pub returns-in_err-take_up_unmet-clause-turned : goal.returns-in_err-take_up_unmet-clause-turned
returns-in_err-take_up_unmet-clause-turned c =
    let u = c.in_err-take_up_unmet.ensures in
    let p = err_from_is_err_and c.from_residual.result c.from_residual.ensures.1 in
    subst (λ (r : Result Found Fail). IsTurned c.args.store.now c.args.held.now c.args.journal.now r c.take_up_unmet.new.held c.take_up_unmet.new.journal) (sym (p.1 ∙ ap (λ (f : Fail). Err f) p.2))
    (record { leads = u.leads; taken = tt; step = tt; steps = u.steps; number = u.number; advanced = u.advanced; conflict = u.conflict; budget = u.budget })

pub take_up_gap-requires-clause-composed : goal.take_up_gap-requires-clause-composed
take_up_gap-requires-clause-composed c =
    let q : c.take_up_unmet.result ≡ Ok Nothing = c.in_ok-take_up_unmet.was ∙ ap (λ (f : Found). Ok f) c.in-Nothing.is in
    subst (λ (h : Holding). AreComposed c.args.reps.now (λ n. rule_at h.equations.rules n)) (sym (c.take_up_unmet.ensures.stays q)) c.requires.composed

pub returns-in-Nothing-clause-turned : goal.returns-in-Nothing-clause-turned
returns-in-Nothing-clause-turned c =
    let u = c.take_up_gap.ensures in
    let q : c.take_up_unmet.result ≡ Ok Nothing = c.in_ok-take_up_unmet.was ∙ ap (λ (f : Found). Ok f) c.in-Nothing.is in
    let spent : Spends c.args.store.now c.args.held.now c.args.journal.now.lines c.take_up_unmet.new.held c.take_up_unmet.new.journal.lines =
    subst (λ (r : Result Found Fail). OnOk r (Spends c.args.store.now c.args.held.now c.args.journal.now.lines c.take_up_unmet.new.held c.take_up_unmet.new.journal.lines)) q (c.take_up_unmet.ensures.budget).left in
    then_turned c.args.store.now c.args.held.now c.take_up_unmet.new.held c.args.journal.now c.take_up_unmet.new.journal c.take_up_unmet.ensures.leads spent
    c.take_up_gap.result c.take_up_gap.new.held c.take_up_gap.new.journal
    (record { leads = u.leads; taken = u.taken; step = u.step; steps = u.steps; number = u.number; advanced = u.advanced; conflict = u.conflict; budget = u.budget })

pub returns-in-Nothing-clause-complete : goal.returns-in-Nothing-clause-complete
returns-in-Nothing-clause-complete c e =
    let o = c.args.held.now in
    let s = c.args.store.now in
    let reps = c.args.reps.now in
    let q : c.take_up_unmet.result ≡ Ok Nothing = c.in_ok-take_up_unmet.was ∙ ap (λ (f : Found). Ok f) c.in-Nothing.is in
    let stays : c.take_up_unmet.new.held ≡ o = c.take_up_unmet.ensures.stays q in
    let well = subst (λ (r : Contents). AreRules (λ n. rule_at r n) r.next) c.rules.ensures.rules c.rule-rule.ensures.rules in
    let swept = subst (λ (h : Holding). IsSwept s.signature s.nodes (rep_in reps) (rules_now h)) stays (c.take_up_gap.ensures.swept e) in
    subst IsComplete (sym (c.take_up_gap.ensures.stays e ∙ stays))
    (complete o s reps c.requires.taken c.requires.reps well swept c.a_settled_state_is_completed.ensures c.a_settled_state_satisfies_its_literals.ensures (c.take_up_unmet.ensures.met q))
