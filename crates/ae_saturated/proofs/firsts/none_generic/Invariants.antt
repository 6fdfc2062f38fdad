use Rattle.std.proofs.Common.{◌≡◌, true}
use Rattle.ae_saturated.specs.Firsts.{none_generic}
use Rattle.ae_saturated.proofs.firsts.none_generic.Given as goal

abbrev pub invariant-loop-place : goal.invariant-loop-place
invariant-loop-place l = none_generic l.problem l.goal l.place ≡ true
