use Rattle.std.specs.Prelude.{ℕ, List, ◌++◌, map}
use Rattle.std.specs.List.Sorted.{IsNonDecreasing}
use Rattle.std.proofs.Common.{sym, ap, ◌∙◌, subst}
use Rattle.std.proofs.lemmas.Option.{slice_get_within}
use Rattle.ae_multiset.specs.Multisets.{rising}
use Rattle.ae_store.specs.Shapes.{shapes}
use Rattle.ae_store.specs.Terms.{terms}
use Rattle.ae_store.proofs.EnterLaws.{front_then}
use Rattle.ae_state_steps.specs.ManySteps.{StatesMany}
use Rattle.ae_multiset_steps.specs.Equating.{AreNamesOf, AreEquated}
use Rattle.ae_multiset_steps.proofs.Fronts.{many_kept}
use Rattle.ae_multiset_steps.proofs.Resting.{rests_later, rests_through_none, rests_through_two}
use Rattle.ae_sweeps.specs.Given.{rep_in}
use Rattle.ae_equation_turns.proofs.SideLaws.{names_twice, same_spelled, some_mapped}
use Rattle.ae_equation_turns.proofs.sides.renamed_side.Goals as goal

pub renamed-requires-clause-names : goal.renamed-requires-clause-names
renamed-requires-clause-names c =
    subst (λ (zs : List ℕ). AreNamesOf c.args.store.now.signature (terms (shapes c.args.store.now.nodes)) c.args.symbol.now (c.args.names.now ++ zs))
    (sym (c.as_slice-side.ensures ∙ c.from_vec-own.ensures ∙ c.in_ok-each.ensures)) c.requires.names

pub renamed-requires-clause-equal : goal.renamed-requires-clause-equal
renamed-requires-clause-equal c =
    subst (λ (zs : List ℕ). AreEquated c.args.justs.now c.args.names.now zs c.args.equal.now) (sym (c.as_slice-side.ensures ∙ c.from_vec-own.ensures ∙ c.in_ok-each.ensures)) c.requires.equal

pub reordered-requires-clause-names : goal.reordered-requires-clause-names
reordered-requires-clause-names c =
    let names = c.args.names.now in
    let own = map (rep_in c.args.reps.now) names in
    let e = c.as_slice-side.ensures ∙ c.from_vec-own.ensures ∙ c.in_ok-each.ensures in
    let f = c.as_slice-to.ensures ∙ c.from_vec-order.ensures ∙ c.in_ok-spelling.ensures.spelling ∙ ap rising e in
    names_twice c.args.store.now.signature (terms (shapes c.args.store.now.nodes)) c.args.symbol.now names own c.as_slice-side.result.now c.as_slice-to.result.now e f c.requires.names

pub reordered-requires-clause-same : goal.reordered-requires-clause-same
reordered-requires-clause-same c =
    let e = c.as_slice-side.ensures ∙ c.from_vec-own.ensures ∙ c.in_ok-each.ensures in
    let f = c.as_slice-to.ensures ∙ c.from_vec-order.ensures ∙ c.in_ok-spelling.ensures.spelling ∙ ap rising e in
    same_spelled c.as_slice-side.result.now c.as_slice-to.result.now (map (rep_in c.args.reps.now) c.args.names.now) e f

pub reordered-requires-clause-some : goal.reordered-requires-clause-some
reordered-requires-clause-some c = some_mapped (rep_in c.args.reps.now) c.args.names.now c.as_slice-side.result.now (c.as_slice-side.ensures ∙ c.from_vec-own.ensures ∙ c.in_ok-each.ensures) c.requires.some

pub chained-requires-clause-states : goal.chained-requires-clause-states
chained-requires-clause-states c = (
  c.as_slice-side.result.now,
  many_kept c.renamed.new.justs c.reordered.new.justs c.reordered.ensures.kept c.in_ok-first.first c.args.symbol.now c.args.names.now c.as_slice-side.result.now c.in_ok-first.ensures.states,
  c.in_ok-second.ensures.states,
)

pub returns-clause-renamed : goal.returns-clause-renamed
returns-clause-renamed c = c.from_vec-order.ensures ∙ c.in_ok-spelling.ensures.spelling ∙ ap rising (c.as_slice-side.ensures ∙ c.from_vec-own.ensures ∙ c.in_ok-each.ensures)

pub returns-clause-rises : goal.returns-clause-rises
returns-clause-rises c = subst (λ (zs : List ℕ). IsNonDecreasing zs) (sym c.from_vec-order.ensures) c.in_ok-spelling.ensures.rises

pub returns-clause-states : goal.returns-clause-states
returns-clause-states c = subst (λ (zs : List ℕ). StatesMany c.chained.new.justs c.in_ok-step.step c.args.symbol.now c.args.names.now zs) c.as_slice-to.ensures c.in_ok-step.ensures.states

pub returns-clause-rests : goal.returns-clause-rests
returns-clause-rests c =
    let j0 = c.args.justs.now in
    let j1 = c.renamed.new.justs in
    let j2 = c.reordered.new.justs in
    let first = c.in_ok-first.first in
    let equal = c.args.equal.now in
    rests_through_two j0 j2 c.chained.new.justs c.in_ok-step.step first c.in_ok-second.second equal c.in_ok-step.ensures.rests
    (rests_later c.args.store.now.signature (terms (shapes c.args.store.now.nodes)) j0 j1 j2 c.reordered.ensures.kept c.reordered.ensures.fits first (slice_get_within j1 first _ c.in_ok-first.ensures.states.there) equal
    c.in_ok-first.ensures.rests) (rests_through_none j0 j1 j2 c.in_ok-second.second equal c.in_ok-second.ensures.rests)

pub returns-clause-kept : goal.returns-clause-kept
returns-clause-kept c =
    front_then c.args.justs.now c.reordered.new.justs c.chained.new.justs (front_then c.args.justs.now c.renamed.new.justs c.reordered.new.justs c.renamed.ensures.kept c.reordered.ensures.kept) c.chained.ensures.kept
