use Rattle.std.specs.Prelude.{ℕ, Option}
use Rattle.std.proofs.Common.{sym, ◌∙◌}
use Rattle.std.proofs.lemmas.Option.{none-some}
use Rattle.ae_monoid.specs.Rules.{rule_at}
use Rattle.ae_monoid.specs.declared.rules.Kept.{Kept}
use Rattle.ae_store.specs.Shapes.{shapes}
use Rattle.ae_store.specs.Terms.{terms}
use Rattle.ae_sweeps.proofs.Bridges.{from_none}
use Rattle.ae_gaps.proofs.OverlapNames.{deduced_of, overlap_said, no_first, no_second}
use Rattle.ae_gaps.proofs.overlaps.overlap_equation.Goals as goal

pub returns-in_default-clause-none : goal.returns-in_default-clause-none
returns-in_default-clause-none c = no_first _ _ (sym c.in_default.ensures.rule)

pub returns-in_default-rule-clause-none : goal.returns-in_default-rule-clause-none
returns-in_default-rule-clause-none c = no_second _ _ (sym c.in_default-rule.ensures.rule)

pub overlaps-requires-clause-first : goal.overlaps-requires-clause-first
overlaps-requires-clause-first c = λ e. none-some c.in-Some.one.now (sym e ∙ sym c.in-Some.ensures.rule)

pub overlaps-requires-clause-second : goal.overlaps-requires-clause-second
overlaps-requires-clause-second c = λ e. none-some c.in-Some-rule.other.now (sym e ∙ sym c.in-Some-rule.ensures.rule)

pub returns-in_default-2-clause-none : goal.returns-in_default-2-clause-none
returns-in_default-2-clause-none c = from_none c.in_ok-pair.field-0 c.in_default-2.not-Some c.in_ok-pair.ensures.none

pub overlap_stated-requires : goal.overlap_stated-requires
overlap_stated-requires c =
    let K : ℕ → Option Kept = λ n. rule_at c.args.rules.now n in
    let one = sym c.in-Some.ensures.rule in
    let other = sym c.in-Some-rule.ensures.rule in
    let d = deduced_of K c.args.first c.args.second c.in-Some.one.now c.in-Some-rule.other.now c.in-Some-2.pair one other (rw c.in-Some-2.is at c.in_ok-pair.ensures.some) in
    record {
      fits = c.requires.fits;
      first_well = c.in-Some.ensures.rules.well c.args.first c.in-Some.one.now one;
      second_well = c.in-Some-rule.ensures.rules.well c.args.second c.in-Some-rule.other.now other;
      first_said = c.requires.said.each c.args.first c.in-Some.one.now one;
      second_said = c.requires.said.each c.args.second c.in-Some-rule.other.now other;
      same = d.0;
      deduced = d.1;
    }

pub returns-clause-some : goal.returns-clause-some
returns-clause-some c =
    let K : ℕ → Option Kept = λ n. rule_at c.args.rules.now n in
    let one = sym c.in-Some.ensures.rule in
    let other = sym c.in-Some-rule.ensures.rule in
    overlap_said c.args.store.now.signature (terms (shapes c.args.store.now.nodes)) c.args.justs.now c.overlap_stated.new.justs K c.args.first c.args.second c.in-Some.one.now c.in-Some-rule.other.now c.in-Some-2.pair
    c.equation_of.result c.in_ok-step.step one other (rw c.in-Some-2.is at c.in_ok-pair.ensures.some) (c.in-Some.ensures.rules.well c.args.first c.in-Some.one.now one)
    (c.in-Some-rule.ensures.rules.well c.args.second c.in-Some-rule.other.now other) c.requires.said c.equation_of.ensures c.in_ok-step.ensures.states c.in_ok-step.ensures.rests
