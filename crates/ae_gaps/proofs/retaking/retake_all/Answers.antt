use Rattle.std.specs.Prelude.{ℕ, ◌<◌, Ok}
use Rattle.std.proofs.Common.{ap, ◌∙◌, below_more, arith}
use Rattle.ae_monoid.specs.Rules.{Contents as Rules}
use Rattle.ae_state.specs.Names.{rules_now}
use Rattle.ae_gaps.specs.Inner.Overlapping.{AreJoined}
use Rattle.ae_gaps.proofs.Going.{same_fail, going_first, reps_still, composed_still, paired_still, joined_still, leads_on, wide_on, more_on, going_more}
use Rattle.ae_gaps.proofs.retaking.retake_all.Goals as goal

pub loop-second-init : goal.loop-second-init
loop-second-init c = record {
  going = going_first c.args.store.now c.args.held.now c.args.journal.now c.requires.taken c.requires.step c.requires.none_waits;
  joined = λ m n l k. absurd (omega (arith, k));
}

pub retake_below-requires : goal.retake_below-requires
retake_below-requires c =
    let s = c.args.store.now in
    let o = c.args.held.now in
    let j = c.args.journal.now in
    let p = c.loop-second.held in
    let k = c.loop-second.journal in
    let g = c.loop-second.invariant.going in
    record {
      taken = g.taken;
      step = g.step;
      reps = reps_still s o j p k g c.args.reps.now c.requires.reps;
      composed = composed_still s o j p k g c.args.reps.now c.requires.composed;
      none_waits = (g.idle).none;
      paired = λ m l. paired_still s o j p k g m c.loop-second.second (c.requires.paired m c.loop-second.second l (omega (arith, c.loop-second-test.true, c.len-many.ensures, ap (λ (r : Rules). r.next) c.rules.ensures.rules)));
    }

pub loop-second-preserved : goal.loop-second-preserved
loop-second-preserved c =
    let s = c.args.store.now in
    let o = c.args.held.now in
    let j = c.args.journal.now in
    let p = c.loop-second.held in
    let k = c.loop-second.journal in
    let g = c.loop-second.invariant.going in
    let r = c.retake_below.ensures in
    let e = c.in_ok-retake_below.was ∙ ap Ok c.in-Nothing.is in
    record {
      going = going_more s o j p k g c.retake_below.new.held c.retake_below.new.journal r.leads c.in_ok-retake_below.ensures.taken c.in_ok-retake_below.ensures.step (r.idle e);
      joined = λ m n l i.
          below_more (λ t. (b : ℕ) → b < t → AreJoined (rules_now o) b t) c.loop-second.second (λ t h b f. c.loop-second.invariant.joined b t f h) (λ b f. joined_still s o j p k g b c.loop-second.second (r.joined e b f)) n i m l;
    }

pub returns-in_err-retake_below-clause-leads : goal.returns-in_err-retake_below-clause-leads
returns-in_err-retake_below-clause-leads c =
    leads_on c.args.store.now c.args.held.now c.args.journal.now c.loop-second.held c.loop-second.journal c.loop-second.invariant.going c.retake_below.new.held c.retake_below.new.journal c.retake_below.ensures.leads

pub returns-in-Advanced-clause-leads : goal.returns-in-Advanced-clause-leads
returns-in-Advanced-clause-leads c =
    leads_on c.args.store.now c.args.held.now c.args.journal.now c.loop-second.held c.loop-second.journal c.loop-second.invariant.going c.retake_below.new.held c.retake_below.new.journal c.retake_below.ensures.leads

pub returns-in-Conflict-clause-leads : goal.returns-in-Conflict-clause-leads
returns-in-Conflict-clause-leads c =
    leads_on c.args.store.now c.args.held.now c.args.journal.now c.loop-second.held c.loop-second.journal c.loop-second.invariant.going c.retake_below.new.held c.retake_below.new.journal c.retake_below.ensures.leads

pub returns-in_err-retake_below-clause-number : goal.returns-in_err-retake_below-clause-number
returns-in_err-retake_below-clause-number c = λ wide e.
    wide_on c.args.store.now c.args.held.now c.args.journal.now c.loop-second.held c.loop-second.journal c.loop-second.invariant.going c.retake_below.new.journal.lines wide
    (c.in_err-retake_below.ensures.number wide (same_fail c.from_residual.result c.in_err-retake_below.field-0.0 wide c.from_residual.ensures.1 e))

pub returns-in-Advanced-clause-advanced : goal.returns-in-Advanced-clause-advanced
returns-in-Advanced-clause-advanced c = λ e.
    more_on c.args.store.now c.args.held.now c.args.journal.now c.loop-second.held c.loop-second.journal c.loop-second.invariant.going c.retake_below.new.journal (c.retake_below.ensures.advanced (c.in_ok-retake_below.was ∙ ap Ok c.in-Advanced.is))

pub returns-clause-leads : goal.returns-clause-leads
returns-clause-leads c = (c.loop-second.invariant.going).leads

pub returns-clause-taken : goal.returns-clause-taken
returns-clause-taken c = (c.loop-second.invariant.going).taken

pub returns-clause-step : goal.returns-clause-step
returns-clause-step c = (c.loop-second.invariant.going).step

pub returns-clause-joined : goal.returns-clause-joined
returns-clause-joined c = λ e m n l k. c.loop-second.invariant.joined m n l (omega (arith, k, c.loop-second-test.false, c.len-many.ensures, ap (λ (r : Rules). r.next) c.rules.ensures.rules))
