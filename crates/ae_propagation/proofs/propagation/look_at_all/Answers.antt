use Rattle.std.proofs.Common.{ℕ, length, take, arith, below_more}
use Rattle.std.proofs.lemmas.Bool.{MatchBool-at_false}
use Rattle.ae_explain.specs.Trail.{clause, AreFalse}
use Rattle.ae_propagation.specs.Watched.{IsQuietBy}
use Rattle.ae_propagation.proofs.Settling.{grown_same}
use Rattle.ae_propagation.proofs.Watching.{grown_length, quiet_grown}
use Rattle.ae_propagation.proofs.propagation.look_at_all.Goals as goal

pub loop-number-preserved : goal.loop-number-preserved
loop-number-preserved g c =
    let u = c.args.coded.now.clauses in
    let t = c.loop-number.trail.assigned in
    let new = c.look_at.new.trail.assigned in
    let n = length c.args.trail.now.assigned in
    let k = c.loop-number.number in
    let says : (m : ℕ) → IsQuietBy (take m new) new (clause u k) =
    MatchBool-at_false (AreFalse new (clause u k)) ((m : ℕ) → IsQuietBy (take m new) new (clause u k)) c.if-branch.false c.in_ok-look_at.ensures.says in
    record {
      fit = c.look_at.ensures.fit;
      lawful = c.look_at.ensures.lawful;
      grown = c.look_at.ensures.grown c.args.trail.now.assigned c.loop-number.invariant.grown;
      quiet = below_more (λ (i : ℕ). IsQuietBy (take n new) new (clause u i)) k
          (λ i h. quiet_grown t new n (clause u i) (c.look_at.ensures.grown t (grown_same t)) (grown_length c.args.trail.now.assigned t c.loop-number.invariant.grown) (c.loop-number.invariant.quiet i h)) (says n);
      steps = omega (arith, c.look_at.ensures.step, c.loop-number.invariant.steps);
    }
