use Rattle.std.proofs.Common.{subst}
use Rattle.ae_monoid.specs.Rules.{Contents as Rules, rule_at, AreRules}
use Rattle.ae_turns.proofs.DroppedRules.{kept_in}
use Rattle.ae_turns.proofs.Steps.{staying_leads}
use Rattle.ae_gaps.proofs.AllJoined.{none_open}
use Rattle.ae_gaps.proofs.gaps.take_up_pair.Goals as goal

pub returns-in_err-are_unpaired-clause-leads : goal.returns-in_err-are_unpaired-clause-leads
returns-in_err-are_unpaired-clause-leads c = staying_leads c.args.store.now c.args.held.now c.args.journal.now (c.requires.taken).fits

pub couple-requires-clause-before : goal.couple-requires-clause-before
couple-requires-clause-before c = ((c.requires.open.2).pair).before

pub couple-requires-clause-unpaired : goal.couple-requires-clause-unpaired
couple-requires-clause-unpaired c = c.in_ok-are_unpaired.ensures.yes c.if-branch.true

pub returns-clause-never : goal.returns-clause-never
returns-clause-never c = λ e.
    let o = c.args.held.now in
    let are = subst (λ (r : Rules). AreRules (λ n. rule_at r n) r.next) c.rules.ensures.rules c.rule-rule.ensures.rules in
    let x = c.requires.open in
    none_open (kept_in o.equations) o.equations.rules.next are (c.take_up_overlaps.ensures.joined e) c.args.first c.args.second x.0 x.1 x.2
