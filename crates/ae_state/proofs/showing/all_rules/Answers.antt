use Rattle.std.proofs.Common.{◌≡◌, ◌++◌, sym, ap, ◌∙◌, subst, arith}
use Rattle.std.specs.List.{AllByRecursion}
use Rattle.ae_settled.specs.Held.{entries, entry_in}
use Rattle.ae_sweeps.specs.Given.{entry_of, entries_of}
use Rattle.ae_state.specs.Names.{IsWrittenRising}
use Rattle.ae_state.proofs.Shown.{entries_pushed, rules_rise}
use Rattle.ae_state.proofs.showing.all_rules.Goals as goal

pub loop-number-preserved : goal.loop-number-preserved
loop-number-preserved c =
    entries_pushed (entries_of c.args.held.now) c.loop-number.rules c.push_rule.new.rules c.loop-number.number c.loop-number.invariant
    (c.in_ok-push_rule.ensures ∙ ap (λ o. c.loop-number.rules ++ entry_in (entry_of o)) c.rule.ensures.rule)

pub returns-clause-rules : goal.returns-clause-rules
returns-clause-rules c =
    let here : c.loop-number.number ≡ c.args.held.now.next = omega (arith, c.loop-number-test.false, c.loop-number.auto.number-end, c.len-number-end.ensures) in
    c.loop-number.invariant ∙ ap (entries (entries_of c.args.held.now)) here

pub returns-clause-rises : goal.returns-clause-rises
returns-clause-rises c = subst (AllByRecursion IsWrittenRising) (sym (returns-clause-rules c)) (rules_rise c.args.held.now c.rule-rule.ensures.rules)
