use Rattle.std.specs.Prelude.{◌≡◌, Result, Ok, Err}
use Rattle.std.proofs.Common.{sym, ap, ◌∙◌, subst}
use Rattle.std.proofs.lemmas.Result.{err_from_is_err_and}
use Rattle.ae_theory.specs.declared.theory.Fail.{Fail}
use Rattle.ae_theory.specs.declared.theory.Outcome.{Outcome}
use Rattle.ae_turns.specs.declared.found.Found.{Found}
use Rattle.ae_turns.specs.declared.found.Found.TheVariants.{Nothing, Advanced, Conflict}
use Rattle.ae_turns.proofs.Budgets.{spends_then}
use Rattle.ae_turns.proofs.Steps.{going_on_leads}
use Rattle.ae_saturation.specs.Inner.Turned.{IsTurned}
use Rattle.ae_saturation.specs.Inner.Saturated.{IsSaturated}
use Rattle.ae_saturation.proofs.Sequels.{under_way_first, then_turned, refused_last, complete_last, conflict_last}
use Rattle.ae_saturation.proofs.saturating.turns.Goals as goal

pub turns-init : goal.turns-init
turns-init c = under_way_first c.args.store.now c.args.held.now c.args.journal.now c.requires.taken c.requires.step

pub returns-in_err-turn : goal.returns-in_err-turn
returns-in_err-turn c =
    let s = c.args.store.now in
    let o = c.args.held.now in
    let j = c.args.journal.now in
    let whole = then_turned s o c.turns.held j c.turns.journal (c.turns.invariant).leads (c.turns.invariant).spent c.turn.result c.turn.new.held c.turn.new.journal c.turn.ensures.turned in
    let p = err_from_is_err_and c.from_residual.result c.from_residual.ensures.1 in
    subst (λ (r : Result Outcome Fail). IsSaturated s o j r c.turn.new.held c.turn.new.journal) (sym (p.1 ∙ ap (λ (f : Fail). Err f) p.2))
    (refused_last s o c.turn.new.held j c.turn.new.journal c.in_err-turn.field-0.0
    (subst (λ (r : Result Found Fail). IsTurned s o j r c.turn.new.held c.turn.new.journal) c.in_err-turn.was whole))

pub returns-in-Nothing : goal.returns-in-Nothing
returns-in-Nothing c =
    let s = c.args.store.now in
    let o = c.args.held.now in
    let j = c.args.journal.now in
    let q : c.turn.result ≡ Ok Nothing = c.in_ok-turn.was ∙ ap (λ (f : Found). Ok f) c.in-Nothing.is in
    let whole = then_turned s o c.turns.held j c.turns.journal (c.turns.invariant).leads (c.turns.invariant).spent c.turn.result c.turn.new.held c.turn.new.journal c.turn.ensures.turned in
    complete_last s o c.turn.new.held j c.turn.new.journal (subst (λ (r : Result Found Fail). IsTurned s o j r c.turn.new.held c.turn.new.journal) q whole) (c.turn.ensures.complete q)

pub turns-preserved : goal.turns-preserved
turns-preserved c =
    let s = c.args.store.now in
    let p = c.turns.held in
    let k = c.turns.journal in
    let q : c.turn.result ≡ Ok Advanced = c.in_ok-turn.was ∙ ap (λ (f : Found). Ok f) c.in-Advanced.is in
    let t = subst (λ (r : Result Found Fail). IsTurned s p k r c.turn.new.held c.turn.new.journal) q c.turn.ensures.turned in
    record {
      leads = going_on_leads s c.args.held.now p c.turn.new.held c.args.journal.now k c.turn.new.journal (c.turns.invariant).leads t.leads;
      taken = t.taken;
      step = t.step;
      spent = spends_then s c.args.held.now p c.turn.new.held c.args.journal.now.lines k.lines c.turn.new.journal.lines (c.turns.invariant).spent (t.budget).left;
    }

pub returns-in-Conflict : goal.returns-in-Conflict
returns-in-Conflict c =
    let s = c.args.store.now in
    let o = c.args.held.now in
    let j = c.args.journal.now in
    let q : c.turn.result ≡ Ok (Conflict c.in-Conflict.number) = c.in_ok-turn.was ∙ ap (λ (f : Found). Ok f) c.in-Conflict.is in
    let whole = then_turned s o c.turns.held j c.turns.journal (c.turns.invariant).leads (c.turns.invariant).spent c.turn.result c.turn.new.held c.turn.new.journal c.turn.ensures.turned in
    conflict_last s o c.turn.new.held j c.turn.new.journal c.in-Conflict.number (subst (λ (r : Result Found Fail). IsTurned s o j r c.turn.new.held c.turn.new.journal) q whole)
