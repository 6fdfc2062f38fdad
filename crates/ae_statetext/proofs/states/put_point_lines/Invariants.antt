use Rattle.std.proofs.Common.{◌≡◌, ◌++◌, drop}
use Rattle.std.specs.List.{flat_map}
use Rattle.ae_stategrammar.specs.StateTexts.{point_line}
use Rattle.ae_statetext.proofs.states.put_point_lines.Given as goal

abbrev pub invariant-loop-point : goal.invariant-loop-point
invariant-loop-point l = l.out.items ++ flat_map point_line (drop l.point-index l.points) ≡ l.fn.out.items ++ flat_map point_line l.points
