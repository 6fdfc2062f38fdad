use Rattle.std.proofs.Common.{◌≡◌, true}
use Rattle.ae_saturated.specs.Firsts.{hypotheses_stand}
use Rattle.ae_saturated.proofs.firsts.hypotheses_stand.Given as goal

abbrev pub invariant-loop-place : goal.invariant-loop-place
invariant-loop-place l = hypotheses_stand l.problem l.goal l.literals l.place ≡ true
