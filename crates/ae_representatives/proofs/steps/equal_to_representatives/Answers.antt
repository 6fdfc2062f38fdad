use Rattle.std.specs.Prelude.{ℕ, ◌+◌, List, [], take, get_or}
use Rattle.std.proofs.Common.{sym, subst}
use Rattle.std.proofs.lemmas.List.{get_or_default}
use Rattle.ae_base.specs.Relations.{Pairwise}
use Rattle.ae_base.proofs.Relations.{pairwise_all}
use Rattle.ae_store.specs.Shapes.{shapes}
use Rattle.ae_store.specs.Terms.{terms}
use Rattle.ae_store.proofs.EnterLaws.{front_same, front_then}
use Rattle.ae_representatives.specs.Equal.{IsEqualTo}
use Rattle.ae_representatives.proofs.EqualTo.{said_kept, equal_more, represented_at, known_by, alike_by, states_by}
use Rattle.ae_representatives.proofs.steps.equal_to_representatives.Goals as goal

pub loop-name-init : goal.loop-name-init
loop-name-init c = record {
  fits = c.requires.fits;
  front = front_same c.args.justs.now;
  equal = subst (λ (ids : List ℕ). Pairwise (IsEqualTo c.args.justs.now c.args.justs.now c.args.values.now c.args.reps.now) [] ids) (sym c.new-steps.ensures) tt;
}

pub equal_step-requires-clause-said : goal.equal_step-requires-clause-said
equal_step-requires-clause-said c =
    said_kept c.args.store.now.signature (terms (shapes c.args.store.now.nodes)) c.args.justs.now c.loop-name.justs c.loop-name.invariant.front c.args.values.now c.requires.said

pub equal_step-requires-clause-left_sorted : goal.equal_step-requires-clause-left_sorted
equal_step-requires-clause-left_sorted c =
    let sig = c.args.store.now.signature in
    let ts = terms (shapes c.args.store.now.nodes) in
    let v = c.args.values.now in
    let reps = c.args.reps.now in
    let names = c.args.names.now in
    let i = c.loop-name.name-index in
    let name = get_or names i 0 in
    let here = represented_at sig ts v reps names i name c.loop-name-test.true (get_or_default names i 0 name c.loop-name-test.true) c.requires.same in
    here.name_sorted

pub equal_step-requires-clause-right_sorted : goal.equal_step-requires-clause-right_sorted
equal_step-requires-clause-right_sorted c =
    let sig = c.args.store.now.signature in
    let ts = terms (shapes c.args.store.now.nodes) in
    let v = c.args.values.now in
    let reps = c.args.reps.now in
    let names = c.args.names.now in
    let i = c.loop-name.name-index in
    let name = get_or names i 0 in
    let here = represented_at sig ts v reps names i name c.loop-name-test.true (get_or_default names i 0 name c.loop-name-test.true) c.requires.same in
    known_by sig ts v reps name c.representative-other.result c.representative-other.ensures here

pub equal_step-requires-clause-alike : goal.equal_step-requires-clause-alike
equal_step-requires-clause-alike c =
    let sig = c.args.store.now.signature in
    let ts = terms (shapes c.args.store.now.nodes) in
    let v = c.args.values.now in
    let reps = c.args.reps.now in
    let names = c.args.names.now in
    let i = c.loop-name.name-index in
    let name = get_or names i 0 in
    let here = represented_at sig ts v reps names i name c.loop-name-test.true (get_or_default names i 0 name c.loop-name-test.true) c.requires.same in
    alike_by sig ts v reps name c.representative-other.result c.representative-other.ensures here

pub returns-in_err-step-clause-front : goal.returns-in_err-step-clause-front
returns-in_err-step-clause-front c = front_then c.args.justs.now c.loop-name.justs c.equal_step.new.justs c.loop-name.invariant.front c.equal_step.ensures.front

pub returns-in_err-push-clause-front : goal.returns-in_err-push-clause-front
returns-in_err-push-clause-front c = front_then c.args.justs.now c.loop-name.justs c.equal_step.new.justs c.loop-name.invariant.front c.equal_step.ensures.front

pub loop-name-preserved : goal.loop-name-preserved
loop-name-preserved c =
    let v = c.args.values.now in
    let reps = c.args.reps.now in
    let j0 = c.args.justs.now in
    let j1 = c.loop-name.justs in
    let j2 = c.equal_step.new.justs in
    let name = get_or c.args.names.now c.loop-name.name-index 0 in
    let id = c.in_ok-step.step in
    let names = c.args.names.now in
    let i = c.loop-name.name-index in
    let l = c.loop-name-test.true in
    let states = states_by j2 reps name id c.representative-other.result c.representative-other.ensures c.in_ok-step.ensures.states in
    let more = equal_more c.args.store.now.signature (terms (shapes c.args.store.now.nodes)) reps v j0 j1 j2 c.loop-name.invariant.front c.equal_step.ensures.front c.loop-name.invariant.fits
    c.equal_step.ensures.fits c.requires.said names c.loop-name.steps i name id l (get_or_default names i 0 name l) c.loop-name.invariant.equal states c.in_ok-step.ensures.rests in
    record {
      fits = c.equal_step.ensures.fits;
      front = front_then j0 j1 j2 c.loop-name.invariant.front c.equal_step.ensures.front;
      equal = subst (λ (ids : List ℕ). Pairwise (IsEqualTo j0 j2 v reps) (take (c.loop-name.name-index + 1) c.args.names.now) ids) (sym c.in_ok-push.ensures.ok) more;
    }

pub returns-clause-equal : goal.returns-clause-equal
returns-clause-equal c =
    pairwise_all (IsEqualTo c.args.justs.now c.loop-name.justs c.args.values.now c.args.reps.now) c.args.names.now c.loop-name.steps c.loop-name.name-index c.loop-name-test.false c.loop-name.invariant.equal
