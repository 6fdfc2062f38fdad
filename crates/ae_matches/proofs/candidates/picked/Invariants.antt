use Rattle.std.proofs.Common.{◌≡◌, ◌++◌, ◌-◌}
use Rattle.ae_matching.specs.Triggers.{picked}
use Rattle.ae_matches.proofs.candidates.picked.Given as goal

abbrev pub invariant-loop-i : goal.invariant-loop-i
invariant-loop-i l = l.names ++ picked (l.vars - l.i) l.bindings ≡ picked l.vars l.bindings
