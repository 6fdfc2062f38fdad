use Rattle.std.specs.Prelude.{ℕ, List, ◌<◌, ◌++◌, map, length}
use Rattle.std.proofs.Common.{sym, subst}
use Rattle.std.proofs.lemmas.Option.{slice_get_within}
use Rattle.ae_store.specs.Shapes.{shapes}
use Rattle.ae_store.specs.Terms.{terms}
use Rattle.ae_store.proofs.EnterLaws.{front_then}
use Rattle.ae_state_steps.specs.ManySteps.{StatesMany}
use Rattle.ae_multiset_steps.specs.Equating.{AreNamesOf, AreEquated}
use Rattle.ae_multiset_steps.proofs.Fronts.{many_kept}
use Rattle.ae_monoid.specs.Rules.{rule_at}
use Rattle.ae_sweeps.specs.Given.{rep_in}
use Rattle.ae_equation_turns.specs.Turned.{DescendsBy}
use Rattle.ae_equation_turns.proofs.RestLaws.{equated_kept, held_across}
use Rattle.ae_equation_turns.proofs.RightLaws.{all_said_kept}
use Rattle.ae_equation_turns.proofs.SideLaws.{names_across}
use Rattle.ae_equation_turns.proofs.waiting.reduced_equation.Goals as goal

pub reduced_side-requires-clause-names : goal.reduced_side-requires-clause-names
reduced_side-requires-clause-names c =
    subst (λ (zs : List ℕ). AreNamesOf c.args.store.now.signature (terms (shapes c.args.store.now.nodes)) c.args.waiting.now.symbol (zs ++ map (rep_in c.args.reps.now) zs)) (sym c.as_slice-left_side.ensures) c.requires.left_names

pub reduced_side-requires-clause-equal : goal.reduced_side-requires-clause-equal
reduced_side-requires-clause-equal c = subst (λ (zs : List ℕ). AreEquated c.args.justs.now zs (map (rep_in c.args.reps.now) zs) c.args.left_equal.now) (sym c.as_slice-left_side.ensures) c.requires.left_equal

pub reduced_side-requires-clause-some : goal.reduced_side-requires-clause-some
reduced_side-requires-clause-some c = subst (λ (zs : List ℕ). 0 < length zs) (sym c.as_slice-left_side.ensures) c.requires.waiting.left_some

pub reduced_side-requires-2-clause-said : goal.reduced_side-requires-2-clause-said
reduced_side-requires-2-clause-said c =
    all_said_kept c.args.store.now.signature (terms (shapes c.args.store.now.nodes)) c.args.justs.now c.reduced_side.new.justs c.reduced_side.ensures.kept (λ n. rule_at c.args.rules.now n) c.requires.said

pub reduced_side-requires-2-clause-names : goal.reduced_side-requires-2-clause-names
reduced_side-requires-2-clause-names c =
    subst (λ (zs : List ℕ). AreNamesOf c.args.store.now.signature (terms (shapes c.args.store.now.nodes)) c.args.waiting.now.symbol (zs ++ map (rep_in c.args.reps.now) zs)) (sym c.as_slice-right_side.ensures) c.requires.right_names

pub reduced_side-requires-2-clause-equal : goal.reduced_side-requires-2-clause-equal
reduced_side-requires-2-clause-equal c =
    let right = c.args.waiting.now.right in
    subst (λ (zs : List ℕ). AreEquated c.reduced_side.new.justs zs (map (rep_in c.args.reps.now) zs) c.args.right_equal.now) (sym c.as_slice-right_side.ensures)
    (equated_kept c.args.justs.now c.reduced_side.new.justs c.reduced_side.ensures.kept right (map (rep_in c.args.reps.now) right) c.args.right_equal.now c.requires.right_equal)

pub reduced_side-requires-2-clause-some : goal.reduced_side-requires-2-clause-some
reduced_side-requires-2-clause-some c = subst (λ (zs : List ℕ). 0 < length zs) (sym c.as_slice-right_side.ensures) c.requires.waiting.right_some

pub restated-requires-clause-states : goal.restated-requires-clause-states
restated-requires-clause-states c =
    let w = c.args.waiting.now in
    let j0 = c.args.justs.now in
    many_kept j0 c.reduced_side-2.new.justs (front_then j0 c.reduced_side.new.justs c.reduced_side-2.new.justs c.reduced_side.ensures.kept c.reduced_side-2.ensures.kept) w.step w.symbol w.left w.right c.requires.waiting.states

pub restated-requires-clause-left : goal.restated-requires-clause-left
restated-requires-clause-left c =
    let w = c.args.waiting.now in
    let j2 = c.reduced_side-2.new.justs in
    let left = c.in_ok-left.left in
    subst (λ (zs : List ℕ). StatesMany j2 left.step w.symbol zs left.names) c.as_slice-left_side.ensures
    (many_kept c.reduced_side.new.justs j2 c.reduced_side-2.ensures.kept left.step w.symbol c.as_slice-left_side.result.now left.names c.in_ok-left.ensures.states)

pub restated-requires-clause-right : goal.restated-requires-clause-right
restated-requires-clause-right c =
    let right = c.in_ok-right.right in
    subst (λ (zs : List ℕ). StatesMany c.reduced_side-2.new.justs right.step c.args.waiting.now.symbol zs right.names) c.as_slice-right_side.ensures c.in_ok-right.ensures.states

pub returns-clause-left_descends : goal.returns-clause-left_descends
returns-clause-left_descends c =
    subst (λ (zs : List ℕ). DescendsBy c.args.reps.now (λ n. rule_at c.args.rules.now n) c.args.waiting.now.symbol zs c.in_ok-left.left.names) c.as_slice-left_side.ensures c.in_ok-left.ensures.descends

pub returns-clause-right_descends : goal.returns-clause-right_descends
returns-clause-right_descends c =
    subst (λ (zs : List ℕ). DescendsBy c.args.reps.now (λ n. rule_at c.args.rules.now n) c.args.waiting.now.symbol zs c.in_ok-right.right.names) c.as_slice-right_side.ensures c.in_ok-right.ensures.descends

pub returns-clause-names : goal.returns-clause-names
returns-clause-names c =
    let sig = c.args.store.now.signature in
    let ts = terms (shapes c.args.store.now.nodes) in
    let w = c.args.waiting.now in
    let left = c.in_ok-left.left.names in
    let right = c.in_ok-right.right.names in
    names_across sig ts w.symbol w.left w.right left right c.requires.waiting.left_some c.requires.waiting.right_some c.requires.waiting.names
    (subst (λ (zs : List ℕ). AreNamesOf sig ts w.symbol (zs ++ left)) c.as_slice-left_side.ensures c.in_ok-left.ensures.names)
    (subst (λ (zs : List ℕ). AreNamesOf sig ts w.symbol (zs ++ right)) c.as_slice-right_side.ensures c.in_ok-right.ensures.names)

pub returns-clause-rests : goal.returns-clause-rests
returns-clause-rests c =
    let w = c.args.waiting.now in
    let reps = c.args.reps.now in
    let j0 = c.args.justs.now in
    let j1 = c.reduced_side.new.justs in
    let left = c.in_ok-left.left.step in
    held_across c.args.store.now.signature (terms (shapes c.args.store.now.nodes)) (λ n. rule_at c.args.rules.now n) w.symbol j0 j1 c.reduced_side-2.new.justs c.restated.new.justs c.reduced_side.ensures.kept
    c.reduced_side-2.ensures.kept c.reduced_side.ensures.fits c.reduced_side-2.ensures.fits c.requires.said w.left (map (rep_in reps) w.left) c.args.left_equal.now w.right (map (rep_in reps) w.right) c.args.right_equal.now
    c.requires.left_equal c.requires.right_equal left w.step c.in_ok-right.right.step c.in_ok-step.step (slice_get_within j0 w.step _ c.requires.waiting.states.there) (slice_get_within j1 left _ c.in_ok-left.ensures.states.there)
    c.in_ok-left.ensures.rests c.in_ok-right.ensures.rests c.in_ok-step.ensures.rests

pub returns-clause-kept : goal.returns-clause-kept
returns-clause-kept c =
    let j0 = c.args.justs.now in
    front_then j0 c.reduced_side-2.new.justs c.restated.new.justs (front_then j0 c.reduced_side.new.justs c.reduced_side-2.new.justs c.reduced_side.ensures.kept c.reduced_side-2.ensures.kept) c.restated.ensures.kept
