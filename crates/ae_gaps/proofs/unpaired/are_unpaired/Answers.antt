use Rattle.std.proofs.Common.{sym, ◌∙◌, subst, inl, inr}
use Rattle.std.proofs.lemmas.Option.{none-some}
use Rattle.ae_base.proofs.Tests.{true_false}
use Rattle.ae_monoid.specs.Equations.{IsOverlap, AreApart}
use Rattle.ae_monoid.specs.Rules.{Contents as Rules, rule_at}
use Rattle.ae_gaps.proofs.OverlapNames.{no_first, no_second}
use Rattle.ae_gaps.proofs.unpaired.are_unpaired.Goals as goal

pub returns-then-was_paired-clause-no : goal.returns-then-was_paired-clause-no
returns-then-was_paired-clause-no c = λ e. inl (c.was_paired.ensures.0 c.if-was_paired.true)

pub returns-in_default-clause-no : goal.returns-in_default-clause-no
returns-in_default-clause-no c =
    λ e. inr (subst (λ (r : Rules). AreApart (rule_at r c.args.first) (rule_at r c.args.second)) c.rules-rules.ensures.rules (no_first _ _ (sym c.in_default.ensures.rule)))

pub returns-in_default-rule-clause-no : goal.returns-in_default-rule-clause-no
returns-in_default-rule-clause-no c =
    λ e. inr (subst (λ (r : Rules). AreApart (rule_at r c.args.first) (rule_at r c.args.second)) c.rules-rules.ensures.rules (no_second _ _ (sym c.in_default-rule.ensures.rule)))

pub overlaps-requires-clause-first : goal.overlaps-requires-clause-first
overlaps-requires-clause-first c = λ e. none-some c.in-Some._one.now (sym e ∙ sym c.in-Some.ensures.rule)

pub overlaps-requires-clause-second : goal.overlaps-requires-clause-second
overlaps-requires-clause-second c = λ e. none-some c.in-Some-rule._other.now (sym e ∙ sym c.in-Some-rule.ensures.rule)

pub returns-in-Some-2-clause-yes : goal.returns-in-Some-2-clause-yes
returns-in-Some-2-clause-yes c =
    λ e. record {
      pair = c.in-Some-2._pair;
      overlap =
          subst (λ (r : Rules). IsOverlap (rule_at r c.args.first) (rule_at r c.args.second) c.in-Some-2._pair) c.rules-rules.ensures.rules (rw c.in-Some-2.is at c.in_ok-_pair.ensures.some);
      unpaired = λ h. true_false (sym (c.was_paired.ensures.1 h) ∙ c.if-was_paired.false);
    }

pub returns-in-None-clause-no : goal.returns-in-None-clause-no
returns-in-None-clause-no c =
    λ e. inr (subst (λ (r : Rules). AreApart (rule_at r c.args.first) (rule_at r c.args.second)) c.rules-rules.ensures.rules (rw c.in-None.is at c.in_ok-_pair.ensures.none))
