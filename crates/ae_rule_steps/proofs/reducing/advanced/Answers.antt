use Rattle.std.specs.Prelude.{ℕ, List, [], ◌∷◌}
use Rattle.std.specs.List.Sorted.{IsNonDecreasing}
use Rattle.std.proofs.Common.{refl, sym, subst}
use Rattle.std.proofs.lemmas.Option.{slice_get_within}
use Rattle.ae_multiset.specs.Multisets.{IsPart}
use Rattle.ae_store.specs.Shapes.{shapes}
use Rattle.ae_store.specs.Terms.{terms}
use Rattle.ae_store.proofs.EnterLaws.{front_then}
use Rattle.ae_store.proofs.PartLaws.{are_one}
use Rattle.ae_just.proofs.EmitLaws.{rest_on_earlier}
use Rattle.ae_state_steps.specs.ManySteps.{StatesMany}
use Rattle.ae_multiset_steps.specs.Equating.{AreNamesOf}
use Rattle.ae_multiset_steps.proofs.Fronts.{many_kept}
use Rattle.ae_multiset_steps.proofs.Resting.{rests_as_before, rests_through_two, rests_wider}
use Rattle.ae_monoid.specs.Reductions.{IsTurned}
use Rattle.ae_rule_steps.proofs.reducing.advanced.Goals as goal

pub turned-requires-clause-names : goal.turned-requires-clause-names
turned-requires-clause-names c =
    subst (λ (zs : List ℕ). AreNamesOf c.args.store.now.signature (terms (shapes c.args.store.now.nodes)) c.args.symbol.now zs) (sym c.as_slice.ensures) c.requires.names

pub turned-requires-clause-rises : goal.turned-requires-clause-rises
turned-requires-clause-rises c = subst (λ (zs : List ℕ). IsNonDecreasing zs) (sym c.as_slice.ensures) c.requires.rises

pub turned-requires-clause-part : goal.turned-requires-clause-part
turned-requires-clause-part c = subst (λ (zs : List ℕ). IsPart c.args.rule.now.entry.left zs) (sym c.as_slice.ensures) c.requires.part

pub chained-requires-clause-states : goal.chained-requires-clause-states
chained-requires-clause-states c =
    let j1 = c.turned.new.justs in
    let u = c.args.symbol.now in
    let now = c.args.now.now in
    let next = c.in_ok-next.next in (
      now.names,
      many_kept c.args.justs.now j1 c.turned.ensures.kept now.step u c.args.names.now now.names c.requires.states,
      subst (λ (zs : List ℕ). StatesMany j1 next.step u zs c.as_slice-2.result.now) c.as_slice.ensures
          (subst (λ (zs : List ℕ). StatesMany j1 next.step u c.as_slice.result.now zs) (sym c.as_slice-2.ensures) c.in_ok-next.ensures.states),
    )

pub returns-in_err-step-clause-kept : goal.returns-in_err-step-clause-kept
returns-in_err-step-clause-kept c = front_then c.args.justs.now c.turned.new.justs c.chained.new.justs c.turned.ensures.kept c.chained.ensures.kept

pub returns-clause-turned : goal.returns-clause-turned
returns-clause-turned c = subst (λ (zs : List ℕ). IsTurned c.args.rule.now zs c.in_ok-next.next.names) c.as_slice.ensures c.in_ok-next.ensures.turned

pub returns-clause-states : goal.returns-clause-states
returns-clause-states c = subst (λ (zs : List ℕ). StatesMany c.chained.new.justs c.in_ok-step.step c.args.symbol.now c.args.names.now zs) c.as_slice-2.ensures c.in_ok-step.ensures.states

pub returns-clause-rests : goal.returns-clause-rests
returns-clause-rests c =
    let j0 = c.args.justs.now in
    let j1 = c.turned.new.justs in
    let now = c.args.now.now.step in
    let just = c.args.rule.now.just in
    let next = c.in_ok-next.next.step in
    let given : List ℕ = now ∷ just ∷ [] in
    let own = rests_as_before j0 j1 c.turned.ensures.kept (rest_on_earlier c.args.store.now.signature (terms (shapes c.args.store.now.nodes)) j1 c.turned.ensures.fits.allowed) now (slice_get_within j0 now _ c.requires.states.there) in
    rests_through_two j0 j1 c.chained.new.justs c.in_ok-step.step now next given c.in_ok-step.ensures.rests (rests_wider j0 j1 now (now ∷ []) given (are_one now given (record { place = 0; is = refl })) own)
    (rests_wider j0 j1 next (just ∷ []) given (are_one just given (record { place = 1; is = refl })) c.in_ok-next.ensures.rests)

pub returns-clause-kept : goal.returns-clause-kept
returns-clause-kept c = front_then c.args.justs.now c.turned.new.justs c.chained.new.justs c.turned.ensures.kept c.chained.ensures.kept
