use Rattle.std.specs.Prelude.{ℕ, Option}
use Rattle.std.proofs.Common.{sym, ◌∙◌}
use Rattle.std.proofs.lemmas.Option.{none-some}
use Rattle.ae_monoid.specs.declared.rules.Kept.{Kept}
use Rattle.ae_monoid.specs.Rules.{rule_at}
use Rattle.ae_sweeps.proofs.RulePairs.{no_first, no_second, are_apart, deduced_of}
use Rattle.ae_sweeps.proofs.pairs.pair_gap.Goals as goal

pub returns-in_default-clause-none : goal.returns-in_default-clause-none
returns-in_default-clause-none c = no_first (λ n. rule_at c.args.rules.now n) c.args.first c.args.second (sym c.in_default.ensures.rule)

pub returns-in_default-rule-clause-none : goal.returns-in_default-rule-clause-none
returns-in_default-rule-clause-none c = no_second (λ n. rule_at c.args.rules.now n) c.args.first c.args.second (sym c.in_default-rule.ensures.rule)

pub overlaps-requires-clause-first : goal.overlaps-requires-clause-first
overlaps-requires-clause-first c = λ e. none-some c.in-Some.one.now (sym e ∙ sym c.in-Some.ensures.rule)

pub overlaps-requires-clause-second : goal.overlaps-requires-clause-second
overlaps-requires-clause-second c = λ e. none-some c.in-Some-rule.other.now (sym e ∙ sym c.in-Some-rule.ensures.rule)

pub both_gap-requires : goal.both_gap-requires
both_gap-requires c =
    let K : ℕ → Option Kept = λ n. rule_at c.args.rules.now n in
    let one = sym c.in-Some.ensures.rule in
    let other = sym c.in-Some-rule.ensures.rule in
    let overlap = rw c.in-Some-2.is at c.in_ok-pair.ensures.some in
    let d = deduced_of K c.args.first c.args.second c.in-Some.one.now c.in-Some-rule.other.now one other c.in-Some-2.pair overlap in
    record {
      before = c.requires.before;
      one = one;
      other = other;
      one_well = c.in-Some.ensures.rules.well c.args.first c.in-Some.one.now one;
      other_well = c.in-Some-rule.ensures.rules.well c.args.second c.in-Some-rule.other.now other;
      symbols = d.0;
      deduced = d.1;
    }

pub returns-in-None-clause-none : goal.returns-in-None-clause-none
returns-in-None-clause-none c =
    let K : ℕ → Option Kept = λ n. rule_at c.args.rules.now n in
    let one = sym c.in-Some.ensures.rule in
    let other = sym c.in-Some-rule.ensures.rule in
    are_apart K c.args.first c.args.second c.in-Some.one.now c.in-Some-rule.other.now one other (c.in-Some.ensures.rules.well c.args.first c.in-Some.one.now one)
    (c.in-Some-rule.ensures.rules.well c.args.second c.in-Some-rule.other.now other) (rw c.in-None.is at c.in_ok-pair.ensures.none)
