use Rattle.std.proofs.Common.{ℕ, ◌≤◌, length, take, slice_index, arith, below_more}
use Rattle.std.proofs.lemmas.Bool.{MatchBool-at_false}
use Rattle.ae_explain.specs.Trail.{clause, AreFalse}
use Rattle.ae_propagation.specs.Watched.{IsQuietBy}
use Rattle.ae_propagation.proofs.Settling.{grown_same}
use Rattle.ae_propagation.proofs.Watching.{grown_length, quiet_grown}
use Rattle.ae_propagation.proofs.propagation.look_at_each.Goals as goal

pub loop-i-preserved : goal.loop-i-preserved
loop-i-preserved g c =
    let u = c.args.coded.now.clauses in
    let t = c.loop-i.trail.assigned in
    let new = c.look_at.new.trail.assigned in
    let k = slice_index c.args.numbers.now c.loop-i.i in
    let says : (n : ℕ) → IsQuietBy (take n new) new (clause u k) =
    MatchBool-at_false (AreFalse new (clause u k)) ((n : ℕ) → IsQuietBy (take n new) new (clause u k)) c.if-branch.false c.in_ok-look_at.ensures.says in
    record {
      fit = c.look_at.ensures.fit;
      lawful = c.look_at.ensures.lawful;
      grown = c.look_at.ensures.grown c.args.trail.now.assigned c.loop-i.invariant.grown;
      falls = omega (arith, c.in_ok-look_at.ensures.falls, c.loop-i.invariant.falls);
      quiet = λ n l.
          let w : n ≤ length t = omega (arith, l, grown_length c.args.trail.now.assigned t c.loop-i.invariant.grown) in
          below_more (λ (i : ℕ). IsQuietBy (take n new) new (clause u (slice_index c.args.numbers.now i))) c.loop-i.i
          (λ i h. quiet_grown t new n (clause u (slice_index c.args.numbers.now i)) (c.look_at.ensures.grown t (grown_same t)) w (c.loop-i.invariant.quiet n l i h)) (says n);
      steps = omega (arith, c.look_at.ensures.step, c.loop-i.invariant.steps);
    }

pub returns-clause-says : goal.returns-clause-says
returns-clause-says g c n l i h = c.loop-i.invariant.quiet n l i (omega (arith, h))
