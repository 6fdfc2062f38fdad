use Rattle.std.specs.Prelude.{ℕ, ◌<◌, List, [], map, length}
use Rattle.std.proofs.Common.{sym, subst, arith}
use Rattle.std.proofs.lemmas.List.{take_all}
use Rattle.ae_base.proofs.Relations.{pairwise_length}
use Rattle.ae_conflicts.specs.Saying.{SayEqual}
use Rattle.ae_pmap.specs.Forest.{present}
use Rattle.ae_store.specs.Terms.{named}
use Rattle.ae_theory.specs.Names.{terms_in}
use Rattle.ae_unmet.specs.Inner.Found.{HaveOneValue}
use Rattle.ae_unmet.proofs.AssumedSteps.{pair_value, pairs_more}
use Rattle.ae_unmet.proofs.Growth.{grown_none, grown_then, taken_grown, value_grown}
use Rattle.ae_unmet.proofs.stating.state_each.Goals as goal

pub loop-i-init : goal.loop-i-init
loop-i-init c =
    let s = c.args.store.now in
    let o = c.args.held.now in
    record {
      grown = grown_none s o c.requires.taken.fits;
      many = pairwise_length (HaveOneValue s o) c.args.left.now c.args.right.now c.requires.same;
      say = subst (λ (ids : List ℕ). SayEqual (terms_in s) o.justs (present o.assumed) ids [] []) (sym c.new-steps.ensures) tt;
    }

pub bounds-right-i : goal.bounds-right-i
bounds-right-i c = omega (arith, c.loop-i-test.true, c.loop-i.invariant.many)

pub state_equal-requires-clause-taken : goal.state_equal-requires-clause-taken
state_equal-requires-clause-taken c = taken_grown c.args.store.now c.args.held.now c.loop-i.held c.requires.taken c.loop-i.invariant.grown

pub state_equal-requires-clause-same : goal.state_equal-requires-clause-same
state_equal-requires-clause-same c =
    value_grown c.args.store.now c.args.held.now c.loop-i.held c.loop-i.invariant.grown _ _ (pair_value c.args.store.now c.args.held.now c.args.left.now c.args.right.now c.loop-i.i c.loop-i-test.true c.requires.same)

pub returns-in_err-step-clause-grown : goal.returns-in_err-step-clause-grown
returns-in_err-step-clause-grown c = grown_then c.args.store.now c.args.held.now c.loop-i.held c.state_equal.new.held c.loop-i.invariant.grown c.state_equal.ensures.grown

pub returns-in_err-push-clause-grown : goal.returns-in_err-push-clause-grown
returns-in_err-push-clause-grown c = grown_then c.args.store.now c.args.held.now c.loop-i.held c.state_equal.new.held c.loop-i.invariant.grown c.state_equal.ensures.grown

pub loop-i-preserved : goal.loop-i-preserved
loop-i-preserved c =
    let s = c.args.store.now in
    let o = c.args.held.now in
    let i = c.loop-i.i in
    let l : i < length c.args.left.now = c.loop-i-test.true in
    let k : i < length c.args.right.now = omega (arith, l, c.loop-i.invariant.many) in
    record {
      grown = grown_then s o c.loop-i.held c.state_equal.new.held c.loop-i.invariant.grown c.state_equal.ensures.grown;
      many = c.loop-i.invariant.many;
      say =
          pairs_more s o c.loop-i.held c.state_equal.new.held c.loop-i.invariant.grown c.state_equal.ensures.grown c.args.left.now c.args.right.now i l k c.loop-i.steps c.in_ok-step.step
          c.loop-i.invariant.say c.in_ok-step.ensures.says c.push.new.self c.in_ok-push.ensures.ok;
    }

pub returns-clause-grown : goal.returns-clause-grown
returns-clause-grown c = c.loop-i.invariant.grown

pub returns-clause-say : goal.returns-clause-say
returns-clause-say c =
    let s = c.args.store.now in
    let o = c.args.held.now in
    let i = c.loop-i.i in
    let many = c.loop-i.invariant.many in
    subst (λ (x : List ℕ × List ℕ). SayEqual (terms_in s) c.loop-i.held.justs (present o.assumed) c.loop-i.steps (map (named (terms_in s)) x.0) (map (named (terms_in s)) x.1))
    (λ j. (take_all i c.args.left.now c.loop-i-test.false j, take_all i c.args.right.now (omega (arith, c.loop-i-test.false, many)) j)) c.loop-i.invariant.say
