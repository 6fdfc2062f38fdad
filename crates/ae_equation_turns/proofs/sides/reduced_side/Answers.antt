use Rattle.std.specs.Prelude.{ℕ, List, ◌++◌, map, Option}
use Rattle.std.proofs.Common.{sym, ◌∙◌, subst}
use Rattle.std.proofs.lemmas.Option.{slice_get_within}
use Rattle.ae_multiset.specs.Multisets.{rising}
use Rattle.ae_multiset.specs.Rewriting.{ReducesTo}
use Rattle.ae_store.specs.Shapes.{shapes}
use Rattle.ae_store.specs.Terms.{terms}
use Rattle.ae_store.proofs.EnterLaws.{front_then}
use Rattle.ae_state_steps.specs.ManySteps.{StatesMany}
use Rattle.ae_multiset_steps.specs.Equating.{AreNamesOf}
use Rattle.ae_multiset_steps.proofs.Fronts.{many_kept}
use Rattle.ae_monoid.specs.declared.rules.Kept.{Kept}
use Rattle.ae_monoid.specs.Rules.{rule_at, IsRuleOf}
use Rattle.ae_sweeps.specs.Given.{rep_in}
use Rattle.ae_equation_turns.proofs.OrderLaws.{some_reduced}
use Rattle.ae_equation_turns.proofs.RestLaws.{held_these, held_later, held_rules, held_two}
use Rattle.ae_equation_turns.proofs.RightLaws.{all_said_kept}
use Rattle.ae_equation_turns.proofs.SideLaws.{names_spelled, names_back, some_spelled, names_reduced, own_renamed, own_reduced, descends_renamed, descends_reduced, descends_both}
use Rattle.ae_equation_turns.proofs.sides.reduced_side.Goals as goal

pub reduced-requires-clause-names : goal.reduced-requires-clause-names
reduced-requires-clause-names c =
    let sig = c.args.store.now.signature in
    let ts = terms (shapes c.args.store.now.nodes) in
    let u = c.args.symbol.now in
    let names = c.args.names.now in
    let own = map (rep_in c.args.reps.now) names in
    subst (λ (zs : List ℕ). AreNamesOf sig ts u zs) (sym (c.as_slice-side.ensures ∙ c.in_ok-own.ensures.renamed)) (names_back sig ts u names (rising own) (names_spelled sig ts u names own c.requires.names))

pub reduced-requires-clause-some : goal.reduced-requires-clause-some
reduced-requires-clause-some c = some_spelled (rep_in c.args.reps.now) c.args.names.now c.as_slice-side.result.now (c.as_slice-side.ensures ∙ c.in_ok-own.ensures.renamed) c.requires.some

pub reduced-requires-clause-said : goal.reduced-requires-clause-said
reduced-requires-clause-said c =
    all_said_kept c.args.store.now.signature (terms (shapes c.args.store.now.nodes)) c.args.justs.now c.renamed_side.new.justs c.renamed_side.ensures.kept (λ n. rule_at c.args.rules.now n) c.requires.said

pub chained-requires-clause-states : goal.chained-requires-clause-states
chained-requires-clause-states c =
    let j1 = c.renamed_side.new.justs in
    let j2 = c.reduced.new.justs in
    let own = c.in_ok-own.own in (
      own.names,
      many_kept j1 j2 c.reduced.ensures.kept own.step c.args.symbol.now c.args.names.now own.names c.in_ok-own.ensures.states,
      subst (λ (zs : List ℕ). StatesMany j2 c.in_ok-reached.reached.step c.args.symbol.now zs c.as_slice-to.result.now) c.as_slice-side.ensures
          (subst (λ (zs : List ℕ). StatesMany j2 c.in_ok-reached.reached.step c.args.symbol.now c.as_slice-side.result.now zs) (sym c.as_slice-to.ensures) c.in_ok-reached.ensures.states),
    )

pub returns-clause-descends : goal.returns-clause-descends
returns-clause-descends c =
    let kept : ℕ → Option Kept = λ n. rule_at c.args.rules.now n in
    let u = c.args.symbol.now in
    let reps = c.args.reps.now in
    let own = c.in_ok-own.own.names in
    let now = c.in_ok-reached.reached.names in
    let follows = subst (λ (zs : List ℕ). ReducesTo (IsRuleOf kept u) zs now) c.as_slice-side.ensures c.in_ok-reached.ensures.follows in
    descends_both reps kept u (descends_renamed reps kept u c.args.names.now own c.in_ok-own.ensures.renamed) (descends_reduced reps kept u follows)

pub returns-clause-own : goal.returns-clause-own
returns-clause-own c = λ least rights.
    let kept : ℕ → Option Kept = λ n. rule_at c.args.rules.now n in
    let u = c.args.symbol.now in
    let reps = c.args.reps.now in
    let own = c.in_ok-own.own.names in
    let now = c.in_ok-reached.reached.names in
    let follows = subst (λ (zs : List ℕ). ReducesTo (IsRuleOf kept u) zs now) c.as_slice-side.ensures c.in_ok-reached.ensures.follows in
    own_reduced reps kept u rights follows (own_renamed reps kept u least c.args.names.now own c.in_ok-own.ensures.renamed)

pub returns-clause-some : goal.returns-clause-some
returns-clause-some c =
    let kept : ℕ → Option Kept = λ n. rule_at c.args.rules.now n in
    let u = c.args.symbol.now in
    some_reduced kept c.args.rules.now.next u c.rule-rule.ensures.rules c.in_ok-reached.ensures.follows
    (some_spelled (rep_in c.args.reps.now) c.args.names.now c.as_slice-side.result.now (c.as_slice-side.ensures ∙ c.in_ok-own.ensures.renamed) c.requires.some)

pub returns-clause-names : goal.returns-clause-names
returns-clause-names c =
    let sig = c.args.store.now.signature in
    let ts = terms (shapes c.args.store.now.nodes) in
    let kept : ℕ → Option Kept = λ n. rule_at c.args.rules.now n in
    let u = c.args.symbol.now in
    let names = c.args.names.now in
    let own = c.in_ok-own.own.names in
    let now = c.in_ok-reached.reached.names in
    let follows = subst (λ (zs : List ℕ). ReducesTo (IsRuleOf kept u) zs now) c.as_slice-side.ensures c.in_ok-reached.ensures.follows in
    let both = subst (λ (zs : List ℕ). AreNamesOf sig ts u (names ++ zs)) (sym c.in_ok-own.ensures.renamed) (names_spelled sig ts u names (map (rep_in c.args.reps.now) names) c.requires.names) in
    names_reduced sig ts c.args.justs.now kept c.args.rules.now.next u c.rule-rule.ensures.rules c.requires.said names own both follows

pub returns-clause-states : goal.returns-clause-states
returns-clause-states c = subst (λ (zs : List ℕ). StatesMany c.chained.new.justs c.in_ok-step.step c.args.symbol.now c.args.names.now zs) c.as_slice-to.ensures c.in_ok-step.ensures.states

pub returns-clause-rests : goal.returns-clause-rests
returns-clause-rests c =
    let sig = c.args.store.now.signature in
    let ts = terms (shapes c.args.store.now.nodes) in
    let kept : ℕ → Option Kept = λ n. rule_at c.args.rules.now n in
    let u = c.args.symbol.now in
    let equal = c.args.equal.now in
    let j0 = c.args.justs.now in
    let j1 = c.renamed_side.new.justs in
    let j2 = c.reduced.new.justs in
    let own = c.in_ok-own.own.step in
    let reached = c.in_ok-reached.reached.step in
    held_two kept u equal j0 j2 c.chained.new.justs c.in_ok-step.step own reached c.in_ok-step.ensures.rests
    (held_later kept u equal sig ts j0 j1 j2 c.reduced.ensures.kept c.reduced.ensures.fits own (slice_get_within j1 own _ c.in_ok-own.ensures.states.there) (held_these kept u equal j0 j1 own c.in_ok-own.ensures.rests))
    (held_rules kept u equal sig ts j0 j1 j2 c.renamed_side.ensures.kept c.renamed_side.ensures.fits c.requires.said reached c.in_ok-reached.ensures.rests)

pub returns-clause-kept : goal.returns-clause-kept
returns-clause-kept c =
    front_then c.args.justs.now c.reduced.new.justs c.chained.new.justs (front_then c.args.justs.now c.renamed_side.new.justs c.reduced.new.justs c.renamed_side.ensures.kept c.reduced.ensures.kept) c.chained.ensures.kept
