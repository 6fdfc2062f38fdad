use Rattle.std.specs.Prelude.{ℕ, Option}
use Rattle.std.proofs.Common.{sym}
use Rattle.ae_monoid.specs.Rules.{rule_at}
use Rattle.ae_monoid.specs.declared.rules.Kept.{Kept}
use Rattle.ae_gaps.proofs.InOrder.{none_first, none_second, in_order}
use Rattle.ae_gaps.proofs.orders.paired_in_order.Goals as goal

pub returns-in_default : goal.returns-in_default
returns-in_default c = none_first (λ n. rule_at c.args.rules.now n) c.args.lines.now c.args.first c.args.second c.in_default.ensures.rule

pub returns-in_default-rule : goal.returns-in_default-rule
returns-in_default-rule c = none_second (λ n. rule_at c.args.rules.now n) c.args.lines.now c.args.first c.args.second c.in_default-rule.ensures.rule

pub returns : goal.returns
returns c =
    let K : ℕ → Option Kept = λ n. rule_at c.args.rules.now n in
    in_order K c.args.lines.now c.args.first c.args.second c.in-Some.one.now c.in-Some-rule.other.now (sym c.in-Some.ensures.rule) (sym c.in-Some-rule.ensures.rule) c.as_slice-left.result.now c.as_slice-right.result.now
    c.as_slice-left.ensures c.as_slice-right.ensures c.is_noted.result c.is_noted.ensures
