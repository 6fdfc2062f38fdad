use Rattle.std.proofs.Common.{ℕ, ◌+◌, ◌<◌, ◌≤◌, length, take, arith}
use Rattle.std.proofs.lemmas.Option.{MatchOption-at_none}
use Rattle.ae_explain.specs.Trail.{clause, AreFalse}
use Rattle.ae_propagation.specs.Watched.{AreQuietBy}
use Rattle.ae_propagation.proofs.Settling.{grown_trans}
use Rattle.ae_propagation.proofs.Watching.{quiet_all}
use Rattle.ae_propagation.proofs.Bounding.{pairs_step}
use Rattle.ae_propagation.proofs.propagation.settle_from.Goals as goal

pub returns-in_err-number-clause-grown : goal.returns-in_err-number-clause-grown
returns-in_err-number-clause-grown g c = grown_trans c.args.trail.now.assigned c.loop-place.trail.assigned c.look_against.new.trail.assigned c.loop-place.invariant.grown c.look_against.ensures.grown

pub returns-in_err-number-clause-bound : goal.returns-in_err-number-clause-bound
returns-in_err-number-clause-bound g c =
    let w : c.loop-place.place < length c.loop-place.trail.assigned = omega (arith, c.len.ensures) in
    let s = pairs_step c.loop-place.trail.assigned c.look_against.new.trail.assigned c.args.coded.now.clauses c.args.from c.loop-place.place c.args.steps.now c.loop-place.steps c.look_against.new.steps c.look_against.ensures.grown
    c.loop-place.invariant.behind w c.loop-place.invariant.steps c.look_against.ensures.steps in
    omega (arith, s)

pub returns-in-Some-clause-grown : goal.returns-in-Some-clause-grown
returns-in-Some-clause-grown g c = grown_trans c.args.trail.now.assigned c.loop-place.trail.assigned c.look_against.new.trail.assigned c.loop-place.invariant.grown c.look_against.ensures.grown

pub returns-in-Some-clause-bound : goal.returns-in-Some-clause-bound
returns-in-Some-clause-bound g c =
    let w : c.loop-place.place < length c.loop-place.trail.assigned = omega (arith, c.len.ensures) in
    let s = pairs_step c.loop-place.trail.assigned c.look_against.new.trail.assigned c.args.coded.now.clauses c.args.from c.loop-place.place c.args.steps.now c.loop-place.steps c.look_against.new.steps c.look_against.ensures.grown
    c.loop-place.invariant.behind w c.loop-place.invariant.steps c.look_against.ensures.steps in
    omega (arith, s)

pub loop-place-preserved : goal.loop-place-preserved
loop-place-preserved g c =
    let u = c.args.coded.now.clauses in
    let new = c.look_against.new.trail.assigned in
    let n = c.loop-place.place in
    let w : c.loop-place.place < length c.loop-place.trail.assigned = omega (arith, c.len.ensures) in
    let s = pairs_step c.loop-place.trail.assigned c.look_against.new.trail.assigned c.args.coded.now.clauses c.args.from c.loop-place.place c.args.steps.now c.loop-place.steps c.look_against.new.steps c.look_against.ensures.grown
    c.loop-place.invariant.behind w c.loop-place.invariant.steps c.look_against.ensures.steps in
    record {
      fit = c.look_against.ensures.fit;
      lawful = c.look_against.ensures.lawful;
      grown = grown_trans c.args.trail.now.assigned c.loop-place.trail.assigned new c.loop-place.invariant.grown c.look_against.ensures.grown;
      quiet = MatchOption-at_none (AreQuietBy (take (n + 1) new) new u) (λ (k : ℕ). (k < length u) × AreFalse new (clause u k)) c.in-None.is c.in_ok-number.ensures.says;
      behind = omega (arith, c.loop-place.invariant.behind);
      steps = s;
    }

pub returns-clause-ends : goal.returns-clause-ends
returns-clause-ends g c =
    let l : length c.loop-place.trail.assigned ≤ c.loop-place.place = omega (arith, c.len.ensures) in
    quiet_all c.loop-place.trail.assigned c.args.coded.now.clauses c.loop-place.place l c.loop-place.invariant.quiet
