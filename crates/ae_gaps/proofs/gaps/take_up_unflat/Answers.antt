use Rattle.std.specs.Prelude.{Ok}
use Rattle.std.proofs.Common.{ap, ◌∙◌, subst}
use Rattle.ae_monoid.specs.Rules.{Contents as Rules, rule_at, AreRules}
use Rattle.ae_sweeps.specs.Given.{rep_in}
use Rattle.ae_turns.proofs.DroppedRules.{kept_in}
use Rattle.ae_gaps.proofs.AllJoined.{none_unflat}
use Rattle.ae_gaps.proofs.Going.{IsGoingOn, same_fail, reps_still, composed_still, leads_on, wide_on, more_on, all_still}
use Rattle.ae_gaps.proofs.gaps.take_up_unflat.Goals as goal

pub take_up_join-requires-clause-joined : goal.take_up_join-requires-clause-joined
take_up_join-requires-clause-joined c = let u = c.requires.unflat.1 in record { node = u.node; at = u.at; symbol = u.symbol; left = u.left; right = u.right; joins = u.joins }

pub returns-in_err-take_up_join-clause-number : goal.returns-in_err-take_up_join-clause-number
returns-in_err-take_up_join-clause-number c = λ wide e. c.in_err-take_up_join.ensures.number wide (same_fail c.from_residual.result c.in_err-take_up_join.field-0.0 wide c.from_residual.ensures.1 e)

pub take_up_overlaps-requires : goal.take_up_overlaps-requires
take_up_overlaps-requires c =
    let s = c.args.store.now in
    let o = c.args.held.now in
    let j = c.args.journal.now in
    let p = c.take_up_join.new.held in
    let k = c.take_up_join.new.journal in
    let none = c.in_ok-take_up_join.was ∙ ap Ok c.in-Nothing.is in
    let g : IsGoingOn s o j p k =
    record { leads = c.take_up_join.ensures.leads; taken = c.in_ok-take_up_join.ensures.taken; step = c.in_ok-take_up_join.ensures.step; idle = c.take_up_join.ensures.idle none } in
    record {
      taken = g.taken;
      step = g.step;
      reps = reps_still s o j p k g c.args.reps.now c.requires.reps;
      composed = composed_still s o j p k g c.args.reps.now c.requires.composed;
      none_waits = (g.idle).none;
    }

pub returns-in-Nothing-clause-leads : goal.returns-in-Nothing-clause-leads
returns-in-Nothing-clause-leads c =
    let s = c.args.store.now in
    let o = c.args.held.now in
    let j = c.args.journal.now in
    let p = c.take_up_join.new.held in
    let k = c.take_up_join.new.journal in
    let none = c.in_ok-take_up_join.was ∙ ap Ok c.in-Nothing.is in
    let g : IsGoingOn s o j p k =
    record { leads = c.take_up_join.ensures.leads; taken = c.in_ok-take_up_join.ensures.taken; step = c.in_ok-take_up_join.ensures.step; idle = c.take_up_join.ensures.idle none } in
    leads_on s o j p k g c.take_up_overlaps.new.held c.take_up_overlaps.new.journal c.take_up_overlaps.ensures.leads

pub returns-in-Nothing-clause-number : goal.returns-in-Nothing-clause-number
returns-in-Nothing-clause-number c = λ wide e.
    let s = c.args.store.now in
    let o = c.args.held.now in
    let j = c.args.journal.now in
    let p = c.take_up_join.new.held in
    let k = c.take_up_join.new.journal in
    let none = c.in_ok-take_up_join.was ∙ ap Ok c.in-Nothing.is in
    let g : IsGoingOn s o j p k =
    record { leads = c.take_up_join.ensures.leads; taken = c.in_ok-take_up_join.ensures.taken; step = c.in_ok-take_up_join.ensures.step; idle = c.take_up_join.ensures.idle none } in
    wide_on s o j p k g c.take_up_overlaps.new.journal.lines wide (c.take_up_overlaps.ensures.number wide e)

pub returns-in-Nothing-clause-advanced : goal.returns-in-Nothing-clause-advanced
returns-in-Nothing-clause-advanced c = λ e.
    let s = c.args.store.now in
    let o = c.args.held.now in
    let j = c.args.journal.now in
    let p = c.take_up_join.new.held in
    let k = c.take_up_join.new.journal in
    let none = c.in_ok-take_up_join.was ∙ ap Ok c.in-Nothing.is in
    let g : IsGoingOn s o j p k =
    record { leads = c.take_up_join.ensures.leads; taken = c.in_ok-take_up_join.ensures.taken; step = c.in_ok-take_up_join.ensures.step; idle = c.take_up_join.ensures.idle none } in
    more_on s o j p k g c.take_up_overlaps.new.journal (c.take_up_overlaps.ensures.advanced e)

pub returns-in-Nothing-clause-never : goal.returns-in-Nothing-clause-never
returns-in-Nothing-clause-never c = λ e.
    let s = c.args.store.now in
    let o = c.args.held.now in
    let j = c.args.journal.now in
    let p = c.take_up_join.new.held in
    let k = c.take_up_join.new.journal in
    let none = c.in_ok-take_up_join.was ∙ ap Ok c.in-Nothing.is in
    let g : IsGoingOn s o j p k =
    record { leads = c.take_up_join.ensures.leads; taken = c.in_ok-take_up_join.ensures.taken; step = c.in_ok-take_up_join.ensures.step; idle = c.take_up_join.ensures.idle none } in
    let are = subst (λ (r : Rules). AreRules (λ n. rule_at r n) r.next) c.rules.ensures.rules c.rule-rule.ensures.rules in
    let u = c.requires.unflat.1 in
    none_unflat (kept_in o.equations) o.equations.rules.next are (all_still s o j p k g (c.take_up_overlaps.ensures.joined e)) s.signature s.nodes (rep_in c.args.reps.now) c.args.name c.requires.unflat.0 u
    (c.take_up_join.ensures.joins none u.node u.symbol u.left u.right u.at u.joins)
