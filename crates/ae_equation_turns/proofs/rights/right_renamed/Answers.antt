use Rattle.std.specs.Prelude.{ℕ, List, ◌<◌, ◌∷◌, [], ◌++◌, map, length}
use Rattle.std.proofs.Common.{sym, ap, ◌∙◌, subst}
use Rattle.std.proofs.lemmas.Option.{slice_get_within}
use Rattle.ae_multiset.specs.Multisets.{rising}
use Rattle.ae_store.specs.Shapes.{shapes}
use Rattle.ae_store.specs.Terms.{terms}
use Rattle.ae_store.proofs.EnterLaws.{front_then}
use Rattle.ae_just.proofs.EmitLaws.{rest_on_earlier}
use Rattle.ae_state_steps.specs.ManySteps.{StatesMany}
use Rattle.ae_multiset_steps.specs.Equating.{AreNamesOf, AreEquated}
use Rattle.ae_multiset_steps.proofs.Fronts.{many_kept}
use Rattle.ae_multiset_steps.proofs.Resting.{rests_as_before, rests_through_two, rests_wider}
use Rattle.ae_sweeps.specs.Given.{rep_in}
use Rattle.ae_equation_turns.proofs.RestLaws.{fronts, backs}
use Rattle.ae_equation_turns.proofs.rights.right_renamed.Goals as goal

pub renamed_side-requires-clause-names : goal.renamed_side-requires-clause-names
renamed_side-requires-clause-names c =
    subst (λ (zs : List ℕ). AreNamesOf c.args.store.now.signature (terms (shapes c.args.store.now.nodes)) c.args.rule.now.entry.symbol (zs ++ map (rep_in c.args.reps.now) zs)) (sym c.as_slice-right.ensures) c.requires.names

pub renamed_side-requires-clause-equal : goal.renamed_side-requires-clause-equal
renamed_side-requires-clause-equal c = subst (λ (zs : List ℕ). AreEquated c.args.justs.now zs (map (rep_in c.args.reps.now) zs) c.args.equal.now) (sym c.as_slice-right.ensures) c.requires.equal

pub renamed_side-requires-clause-some : goal.renamed_side-requires-clause-some
renamed_side-requires-clause-some c = subst (λ (zs : List ℕ). 0 < length zs) (sym c.as_slice-right.ensures) c.requires.well.some

pub chained-requires-clause-states : goal.chained-requires-clause-states
chained-requires-clause-states c =
    let j1 = c.renamed_side.new.justs in
    let rule = c.args.rule.now in
    let u = rule.entry.symbol in
    let now = c.in_ok-renamed.renamed in (
      rule.entry.right,
      subst (λ (zs : List ℕ). StatesMany j1 rule.just u zs rule.entry.right) (sym c.as_slice-left.ensures)
          (many_kept c.args.justs.now j1 c.renamed_side.ensures.kept rule.just u rule.entry.left rule.entry.right c.requires.said.states),
      subst (λ (zs : List ℕ). StatesMany j1 now.step u zs c.as_slice-to.result.now) c.as_slice-right.ensures
          (subst (λ (zs : List ℕ). StatesMany j1 now.step u c.as_slice-right.result.now zs) (sym c.as_slice-to.ensures) c.in_ok-renamed.ensures.states),
    )

pub returns-clause-renamed : goal.returns-clause-renamed
returns-clause-renamed c = c.in_ok-renamed.ensures.renamed ∙ ap (λ (zs : List ℕ). rising (map (rep_in c.args.reps.now) zs)) c.as_slice-right.ensures

pub returns-clause-states : goal.returns-clause-states
returns-clause-states c =
    let j2 = c.chained.new.justs in
    let u = c.args.rule.now.entry.symbol in
    let id = c.in_ok-step.step in
    subst (λ (zs : List ℕ). StatesMany j2 id u zs c.in_ok-renamed.renamed.names) c.as_slice-left.ensures
    (subst (λ (zs : List ℕ). StatesMany j2 id u c.as_slice-left.result.now zs) c.as_slice-to.ensures c.in_ok-step.ensures.states)

pub returns-clause-rests : goal.returns-clause-rests
returns-clause-rests c =
    let j0 = c.args.justs.now in
    let j1 = c.renamed_side.new.justs in
    let just = c.args.rule.now.just in
    let equal = c.args.equal.now in
    let given : List ℕ = (just ∷ []) ++ equal in
    let now = c.in_ok-renamed.renamed.step in
    rests_through_two j0 j1 c.chained.new.justs c.in_ok-step.step just now given c.in_ok-step.ensures.rests
    (rests_wider j0 j1 just (just ∷ []) given (fronts (just ∷ []) equal)
    (rests_as_before j0 j1 c.renamed_side.ensures.kept (rest_on_earlier c.args.store.now.signature (terms (shapes c.args.store.now.nodes)) j1 c.renamed_side.ensures.fits.allowed) just
    (slice_get_within j0 just _ c.requires.said.states.there))) (rests_wider j0 j1 now equal given (backs (just ∷ []) equal) c.in_ok-renamed.ensures.rests)

pub returns-clause-kept : goal.returns-clause-kept
returns-clause-kept c = front_then c.args.justs.now c.renamed_side.new.justs c.chained.new.justs c.renamed_side.ensures.kept c.chained.ensures.kept
