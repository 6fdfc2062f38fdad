use Rattle.std.proofs.Common.{refl}
use Rattle.ae_journal.specs.Journals.{live}
use Rattle.ae_turns.proofs.DroppedRules.{with_equations}
use Rattle.ae_turns.proofs.Steps.{going_on_leads}
use Rattle.ae_gaps.proofs.Pushed.{reps_with, step_pushed}
use Rattle.ae_gaps.proofs.Taking.{refused_push, pushed_leads, pushed_taken, some_waits, first_waits, none_then, given_up, rights_same, meets_same}
use Rattle.ae_gaps.proofs.waiting.take_up_equation.Goals as goal

pub returns-in_err-push-clause-leads : goal.returns-in_err-push-clause-leads
returns-in_err-push-clause-leads c =
    refused_push c.args.store.now c.args.held.now c.requires.taken c.args.journal.now c.push.new.self c.push.ensures.rules c.push.ensures.lasts c.in_err-push.ensures.err

pub take_up_first-requires : goal.take_up_first-requires
take_up_first-requires c =
    let o = c.args.held.now in
    let s = c.args.store.now in
    let e = c.push.new.self in
    let w = c.args.equation in
    let queue = c.in_ok-push.ensures.ok in
    record {
      taken = pushed_taken s o c.requires.taken c.args.journal.now e c.push.ensures.rules c.push.ensures.lasts w queue c.requires.said c.requires.rests;
      step = step_pushed o e w c.push.ensures.rules c.push.ensures.pairs queue (live c.args.journal.now.lines) c.requires.source c.requires.step;
      reps = reps_with o e c.args.reps.now c.requires.reps;
      rights = rights_same c.args.reps.now o.equations.rules e.rules c.push.ensures.rules c.requires.rights;
      some = some_waits o e w queue c.requires.none_waits;
    }

pub returns-clause-leads : goal.returns-clause-leads
returns-clause-leads c =
    let o = c.args.held.now in
    let s = c.args.store.now in
    let j = c.args.journal.now in
    let e = c.push.new.self in
    going_on_leads s o (with_equations o e) c.take_up_first.new.held j j c.take_up_first.new.journal
    (pushed_leads s o c.requires.taken j e c.push.ensures.rules c.push.ensures.lasts c.args.equation c.in_ok-push.ensures.ok c.requires.said c.requires.rests) c.take_up_first.ensures.leads

pub returns-clause-idle : goal.returns-clause-idle
returns-clause-idle c q =
    let o = c.args.held.now in
    let e = c.push.new.self in
    let f = c.take_up_first.ensures in
    given_up o (with_equations o e) c.take_up_first.new.held c.args.journal.now c.take_up_first.new.journal refl (f.stays q) c.push.ensures.rules c.push.ensures.pairs (f.rules q) (f.pairs q)
    (none_then o e c.args.equation c.in_ok-push.ensures.ok c.requires.none_waits _ (f.given_up q)) (f.lines q)

pub returns-clause-meets : goal.returns-clause-meets
returns-clause-meets c q =
    let o = c.args.held.now in
    let e = c.push.new.self in
    let w = c.args.equation in
    meets_same c.args.reps.now o.equations.rules e.rules w c.push.ensures.rules (c.take_up_first.ensures.meets w (first_waits o e w c.in_ok-push.ensures.ok c.requires.none_waits) q)
