use Rattle.std.specs.Prelude.{Ok}
use Rattle.std.proofs.Common.{ap, ◌∙◌, below_more, arith}
use Rattle.ae_state.specs.Names.{rules_now}
use Rattle.ae_gaps.specs.Inner.Overlapping.{AreJoined}
use Rattle.ae_gaps.proofs.Going.{same_fail, going_first, reps_still, composed_still, paired_still, joined_still, leads_on, wide_on, more_on, going_more}
use Rattle.ae_gaps.proofs.retaking.retake_below.Goals as goal

pub loop-first-init : goal.loop-first-init
loop-first-init c = record {
  going = going_first c.args.store.now c.args.held.now c.args.journal.now c.requires.taken c.requires.step c.requires.none_waits;
  joined = λ m l. absurd (omega (arith, l));
}

pub retake-requires : goal.retake-requires
retake-requires c =
    let s = c.args.store.now in
    let o = c.args.held.now in
    let j = c.args.journal.now in
    let p = c.loop-first.held in
    let k = c.loop-first.journal in
    let g = c.loop-first.invariant.going in
    record {
      taken = g.taken;
      step = g.step;
      reps = reps_still s o j p k g c.args.reps.now c.requires.reps;
      composed = composed_still s o j p k g c.args.reps.now c.requires.composed;
      none_waits = (g.idle).none;
      paired = paired_still s o j p k g c.loop-first.first c.args.second (c.requires.paired c.loop-first.first c.loop-first-test.true);
    }

pub loop-first-preserved : goal.loop-first-preserved
loop-first-preserved c =
    let s = c.args.store.now in
    let o = c.args.held.now in
    let j = c.args.journal.now in
    let p = c.loop-first.held in
    let k = c.loop-first.journal in
    let g = c.loop-first.invariant.going in
    let r = c.retake.ensures in
    let e = c.in_ok-retake.was ∙ ap Ok c.in-Nothing.is in
    record {
      going = going_more s o j p k g c.retake.new.held c.retake.new.journal r.leads c.in_ok-retake.ensures.taken c.in_ok-retake.ensures.step (r.idle e);
      joined = λ m l. below_more (λ i. AreJoined (rules_now o) i c.args.second) c.loop-first.first c.loop-first.invariant.joined (joined_still s o j p k g c.loop-first.first c.args.second (r.joined e)) m l;
    }

pub returns-in_err-retake-clause-leads : goal.returns-in_err-retake-clause-leads
returns-in_err-retake-clause-leads c =
    leads_on c.args.store.now c.args.held.now c.args.journal.now c.loop-first.held c.loop-first.journal c.loop-first.invariant.going c.retake.new.held c.retake.new.journal c.retake.ensures.leads

pub returns-in-Advanced-clause-leads : goal.returns-in-Advanced-clause-leads
returns-in-Advanced-clause-leads c =
    leads_on c.args.store.now c.args.held.now c.args.journal.now c.loop-first.held c.loop-first.journal c.loop-first.invariant.going c.retake.new.held c.retake.new.journal c.retake.ensures.leads

pub returns-in-Conflict-clause-leads : goal.returns-in-Conflict-clause-leads
returns-in-Conflict-clause-leads c =
    leads_on c.args.store.now c.args.held.now c.args.journal.now c.loop-first.held c.loop-first.journal c.loop-first.invariant.going c.retake.new.held c.retake.new.journal c.retake.ensures.leads

pub returns-in_err-retake-clause-number : goal.returns-in_err-retake-clause-number
returns-in_err-retake-clause-number c = λ wide e.
    wide_on c.args.store.now c.args.held.now c.args.journal.now c.loop-first.held c.loop-first.journal c.loop-first.invariant.going c.retake.new.journal.lines wide
    (c.in_err-retake.ensures.number wide (same_fail c.from_residual.result c.in_err-retake.field-0.0 wide c.from_residual.ensures.1 e))

pub returns-in-Advanced-clause-advanced : goal.returns-in-Advanced-clause-advanced
returns-in-Advanced-clause-advanced c = λ e.
    more_on c.args.store.now c.args.held.now c.args.journal.now c.loop-first.held c.loop-first.journal c.loop-first.invariant.going c.retake.new.journal (c.retake.ensures.advanced (c.in_ok-retake.was ∙ ap Ok c.in-Advanced.is))

pub returns-clause-leads : goal.returns-clause-leads
returns-clause-leads c = (c.loop-first.invariant.going).leads

pub returns-clause-taken : goal.returns-clause-taken
returns-clause-taken c = (c.loop-first.invariant.going).taken

pub returns-clause-step : goal.returns-clause-step
returns-clause-step c = (c.loop-first.invariant.going).step

pub returns-clause-idle : goal.returns-clause-idle
returns-clause-idle c = λ e. (c.loop-first.invariant.going).idle

pub returns-clause-joined : goal.returns-clause-joined
returns-clause-joined c = λ e m l. c.loop-first.invariant.joined m (omega (arith, l, c.loop-first-test.false))
